-- What is said of a page that is named says another thing too.
use Rattle.std.proofs.Common.{ℕ}
use Rattle.pagecache.specs.declared.fault.CacheFault.{CacheFault}
use Rattle.pagecache.specs.declared.fault.CacheFault.TheVariants as cache
use Rattle.tbtree.specs.Faults.{IfNamed, NamesEach, NamesInCache}
use Rattle.tbtree.specs.declared.fault.TreeFault.{TreeFault}
use Rattle.tbtree.specs.declared.fault.TreeFault.TheVariants.{Cache as OfCache, Malformed, Spent}

names_in_cache : (P R : ℕ → Type 0) (fault : CacheFault) → ((n : ℕ) → P n → R n) → NamesInCache P fault → NamesInCache R fault
names_in_cache P R (cache.Damaged n) f h = f n h
names_in_cache P R _ f h = tt

pub names_then : (P Q R S : ℕ → Type 0) → ((n : ℕ) → P n → R n) → ((n : ℕ) → Q n → S n) → (fault : TreeFault) → NamesEach P Q fault → NamesEach R S fault
names_then P Q R S f g (OfCache fault) h = names_in_cache P R fault f h
names_then P Q R S f g (Malformed n) h = g n h
names_then P Q R S f g Spent h = tt

-- of one that is damaged or malformed, and of one that is malformed
pub named_then : (P Q : ℕ → Type 0) → ((n : ℕ) → P n → Q n) → (fault : TreeFault) → IfNamed P fault → IfNamed Q fault
named_then P Q f fault h = names_then P P Q Q f f fault h

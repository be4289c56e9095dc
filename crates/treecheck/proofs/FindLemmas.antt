-- One call of a check after another.
use Rattle.std.proofs.Common.{ℕ, ◌∙◌, Ok, Err, IsTrue}
use Rattle.pagecache.specs.Cache.{Cache}
use Rattle.chains.specs.Reads.{OnlyReads}
use Rattle.chains.proofs.ReadLemmas.{reads_refused}
use Rattle.tbtree.specs.declared.fault.TreeFault.{TreeFault}
use Rattle.tbtree.specs.declared.fault.TreeFault.TheVariants.{Malformed}
use Rattle.treecheck.specs.Finding.{FindsPages}

-- a call that fails after pages were only read, which are as it wants them where all are as they should be
pub fails : {T U A B : Type 0} {G : T → Type 0} {H : U → Type 0} (old mid new : Cache) (fault : TreeFault) → OnlyReads old mid → (IsTrue old.store.is_faithful → B → A)
    → FindsPages A G mid new (Err fault) → FindsPages B H old new (Err fault)
fails old mid new fault r want call = record {
  found = λ fa. tt;
  only = λ fa b. call.only (r.store.faithful ∙ fa) (want fa b);
  reads = reads_refused old mid new fault r call.reads;
}

-- a page that is not as it should be, after pages were only read
pub malformed : {T A : Type 0} {G : T → Type 0} (old new : Cache) (page : ℕ) → OnlyReads old new → (IsTrue old.store.is_faithful → A → ⊥) → FindsPages A G old new (Err (Malformed page))
malformed old new page r unfit = record { found = λ fa. tt; only = λ fa a. absurd (unfit fa a); reads = record { only = r; caused = tt } }

-- what is given after pages were only read
pub gives : {T A : Type 0} {G : T → Type 0} (old new : Cache) (value : T) → OnlyReads old new → (IsTrue old.store.is_faithful → G value) → FindsPages A G old new (Ok value)
gives old new value r given = record { found = given; only = λ fa a. tt; reads = record { only = r; caused = tt } }

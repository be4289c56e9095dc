-- What the answers of the parts say of the answers of the index.
use Rattle.std.proofs.Common.{ℕ, ◌≡◌, Bool, true, false, refl, sym, subst, Result, Ok, Err}
use Rattle.std.specs.Prelude.{MatchResult, IfOk, IfErr, IsErrOf}
use Rattle.legs.specs.Index.{MayRefuse, MayRefuseLeg, HasRisen}
use Rattle.legs.specs.declared.index.IndexFault.{IndexFault}
use Rattle.legs.specs.declared.index.IndexFault.TheVariants as index
use Rattle.pagecache.specs.Cache.{Cache}
use Rattle.pagecache.specs.declared.fault.CacheFault.{CacheFault}
use Rattle.pagecache.specs.declared.fault.CacheFault.TheVariants as cache
use Rattle.tbtree.specs.Faults.{MayRefuseRead, MayRefuseReadInCache, MayRefuseWrite, MayRefuseWriteInCache, RefusesRead, RefusesReadInCache, RefusesWrite, RefusesWriteInCache}
use Rattle.tbtree.specs.declared.fault.TreeFault.{TreeFault}
use Rattle.tbtree.specs.declared.fault.TreeFault.TheVariants as tree
use Rattle.boxsearch.specs.Answers.{answered, of_cache, of_tree}

-- what is said of each fault of a part is said of the answer
pub each_fault : {A F : Type 0} (say : F → IndexFault) (P : F → Type 0) (Q : IndexFault → Type 0) → ((fault : F) → P fault → Q (say fault)) → (r : Result A F) → IfErr r P → IfErr (answered say r) Q
each_fault say P Q h (Ok x) p = tt
each_fault say P Q h (Err f) p = h f p

pub each_value : {A F : Type 0} (say : F → IndexFault) (P : A → Type 0) (r : Result A F) → IfOk r P → IfOk (answered say r) P
each_value say P (Ok x) p = p
each_value say P (Err f) p = tt

pub faults_of : {A F : Type 0} (P : A → Type 0) (Q : F → Type 0) (r : Result A F) → MatchResult r P Q → IfErr r Q
faults_of P Q (Ok x) p = tt
faults_of P Q (Err f) p = p

pub values_of : {A F : Type 0} (P : A → Type 0) (Q : F → Type 0) (r : Result A F) → MatchResult r P Q → IfOk r P
values_of P Q (Ok x) p = p
values_of P Q (Err f) p = tt

-- what is said where an index is sound, of each value and of each fault
pub under : {A F S : Type 0} (Q : F → Type 0) (r : Result A F) → (S → IfErr r Q) → IfErr r (λ fault. S → Q fault)
under Q (Ok x) h = tt
under Q (Err f) h = h

pub under_ok : {A F S : Type 0} (P : A → Type 0) (r : Result A F) → (S → IfOk r P) → IfOk r (λ value. S → P value)
under_ok P (Ok x) h = h
under_ok P (Err f) h = tt

-- the fault that is answered
pub the_fault : {A : Type 0} (r : Result A IndexFault) (Q : IndexFault → Type 0) (fault : IndexFault) → IsErrOf r fault → IfErr r Q → Q fault
the_fault r Q fault e h = subst (λ r. IfErr r Q) e h

-- a store that is said to have failed has, and none is said to be full
abbrev pub Said : Cache → Cache → IndexFault → Type 0
Said old new index.Store = HasRisen old.store.faults new.store.faults
Said old new index.StoreFull = ⊥
Said old new _ = Unit {0}

-- the same of an insertion, by which a store may be full
abbrev pub SaidOfLeg : Cache → Cache → IndexFault → Type 0
SaidOfLeg old new index.Store = HasRisen old.store.faults new.store.faults
SaidOfLeg old new index.StoreFull = new.count ≡ new.store.most
SaidOfLeg old new index.Spent = ⊥
SaidOfLeg old new _ = Unit {0}

-- what holds of each kind of fault holds of a fault
pub of_each_cache : (P : CacheFault → Type 0) → P cache.NoPage → P cache.Store → ((n : ℕ) → P (cache.Damaged n)) → P cache.StoreFull → P cache.Memory → (fault : CacheFault) → P fault
of_each_cache P none store damaged full memory cache.NoPage = none
of_each_cache P none store damaged full memory cache.Store = store
of_each_cache P none store damaged full memory (cache.Damaged n) = damaged n
of_each_cache P none store damaged full memory cache.StoreFull = full
of_each_cache P none store damaged full memory cache.Memory = memory

-- and so of the faults of a tree
of_each_tree : (P : TreeFault → Type 0) → ((fault : CacheFault) → P (tree.Cache fault)) → ((n : ℕ) → P (tree.Malformed n)) → P tree.Spent → (fault : TreeFault) → P fault
of_each_tree P in_cache malformed spent (tree.Cache fault) = in_cache fault
of_each_tree P in_cache malformed spent (tree.Malformed n) = malformed n
of_each_tree P in_cache malformed spent tree.Spent = spent

read_cache_said : (old new : Cache) (fault : CacheFault) → RefusesReadInCache old new fault → Said old new (of_cache fault)
read_cache_said old new = of_each_cache (λ fault. RefusesReadInCache old new fault → Said old new (of_cache fault)) (λ h. tt) (λ h. h) (λ n h. tt) (λ h. h) (λ h. tt)

pub read_said : (old new : Cache) (fault : TreeFault) → RefusesRead old new fault → Said old new (of_tree fault)
read_said old new = of_each_tree (λ fault. RefusesRead old new fault → Said old new (of_tree fault)) (read_cache_said old new) (λ n h. tt) (λ h. tt)

-- of a tree that may be spent
pub search_said : {A : Type 0} (spent : Bool) (old new : Cache) (r : Result A TreeFault) → (spent ≡ true → (r ≡ Err tree.Spent) × (new ≡ old)) → (spent ≡ false → IfErr r (RefusesRead old new))
    → IfErr (answered (λ fault. of_tree fault) r) (Said old new)
search_said true old new r refused caused = subst (λ r. IfErr (answered (λ fault. of_tree fault) r) (Said old new)) (sym (refused refl).0) tt
search_said false old new r refused caused = each_fault (λ fault. of_tree fault) (RefusesRead old new) (Said old new) (read_said old new) r (caused refl)

write_cache_said : (old new : Cache) (fault : CacheFault) → RefusesWriteInCache old new fault → SaidOfLeg old new (of_cache fault)
write_cache_said old new = of_each_cache (λ fault. RefusesWriteInCache old new fault → SaidOfLeg old new (of_cache fault)) (λ h. tt) (λ h. h) (λ n h. tt) (λ h. h) (λ h. tt)

pub write_said : (old new : Cache) (fault : TreeFault) → RefusesWrite old new fault → SaidOfLeg old new (of_tree fault)
write_said old new = of_each_tree (λ fault. RefusesWrite old new fault → SaidOfLeg old new (of_tree fault)) (write_cache_said old new) (λ n h. tt) (λ h. absurd h)

-- what good pages allow, a sound index may answer
read_cache_allowed : (fault : CacheFault) → MayRefuseReadInCache fault → MayRefuse (of_cache fault)
read_cache_allowed = of_each_cache (λ fault. MayRefuseReadInCache fault → MayRefuse (of_cache fault)) (λ h. h) (λ h. tt) (λ n h. h) (λ h. h) (λ h. tt)

pub read_allowed : (fault : TreeFault) → MayRefuseRead fault → MayRefuse (of_tree fault)
read_allowed = of_each_tree (λ fault. MayRefuseRead fault → MayRefuse (of_tree fault)) read_cache_allowed (λ n h. h) (λ h. h)

write_cache_allowed : (fault : CacheFault) → MayRefuseWriteInCache fault → MayRefuseLeg (of_cache fault)
write_cache_allowed = of_each_cache (λ fault. MayRefuseWriteInCache fault → MayRefuseLeg (of_cache fault)) (λ h. h) (λ h. tt) (λ n h. h) (λ h. tt) (λ h. tt)

pub write_allowed : (fault : TreeFault) → MayRefuseWrite fault → MayRefuseLeg (of_tree fault)
write_allowed = of_each_tree (λ fault. MayRefuseWrite fault → MayRefuseLeg (of_tree fault)) write_cache_allowed (λ n h. h) (λ h. h)

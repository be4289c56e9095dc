-- What putting legs into the tree leaves of an index.
use Rattle.std.proofs.Common.{◌≡◌, ap, ◌∙◌, arith, refl, Some}
use Rattle.std.proofs.lemmas.Int.{clamps}
use Rattle.legs.specs.Asking.{IsLater}
use Rattle.pagecache.specs.Cache.{Cache}
use Rattle.tbtree.specs.Passes.{Passes}
use Rattle.boxsearch.specs.Index.{IndexView, words}

-- what putting legs into the tree leaves
pub later_put : (old new : IndexView) → new.tree.shape ≡ old.tree.shape → Passes old.cache new.cache → IsLater words old new
later_put old new shape passes = record {
  plan = ap Some shape;
  faults = passes.store.faults;
  asked = (let a = passes.asked in omega (arith, clamps, a));
  faithful = λ fa. passes.store.faithful ∙ fa;
}

-- what nothing leaves
pub later_same : (old : IndexView) → IsLater words old old
later_same old = record { plan = refl; faults = omega arith; asked = omega arith; faithful = λ fa. fa }

-- what is left where the pages are not touched
pub later_spent : (old new : IndexView) → new.cache ≡ old.cache → new.tree.shape ≡ old.tree.shape → IsLater words old new
later_spent old new cache shape = record {
  plan = ap Some shape;
  faults = (let e = ap (λ (c : Cache). c.store.faults) cache in omega (arith, e));
  asked = (let e = ap (λ (c : Cache). c.asked) cache in omega (arith, clamps, e));
  faithful = λ fa. ap (λ (c : Cache). c.store.is_faithful) cache ∙ fa;
}

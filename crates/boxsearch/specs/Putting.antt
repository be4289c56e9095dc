-- Helpers of private functions: what putting legs into its tree makes of an index.
use Rattle.std.specs.Prelude.{ℕ, ◌≡◌, ◌+◌, ◌-◌, ◌^◌, ◌<◌, min, true, false, IsTrue, OnOk, OnErr, IfErr, List, length, Result, Some, slice_get, set}
use Rattle.legs.specs.Legs.{LegView}
use Rattle.tbtree.specs.Faults.{RefusesWrite}
use Rattle.tbtree.specs.Joining.{JoinsAll}
use Rattle.tbtree.specs.Nodes.{pages_of_cache}
use Rattle.tbtree.specs.Passes.{Passes, KeepsLength}
use Rattle.tbtree.specs.declared.fault.TreeFault.{TreeFault}
use Rattle.tbtree.specs.declared.tree.Place.{Place}
use Rattle.boxsearch.specs.Index.{IndexView}

-- what putting legs of one feature makes of it
pub record PutsAll (old new : IndexView) (feature : ℕ) (legs : List LegView)
    (result : Result (Unit {0}) TreeFault) : Type 0 where
  pub was : Place
  pub is : Place
  pub found : slice_get old.places feature ≡ Some was
  pub places : new.places ≡ set old.places feature is
  pub joins : IsTrue old.cache.store.is_faithful
      → JoinsAll (pages_of_cache old.cache) (pages_of_cache new.cache) old.tree new.tree was
      is legs result
  pub shape : new.tree.shape ≡ old.tree.shape
  pub passes : Passes old.cache new.cache
  pub count : OnOk result (KeepsLength old.cache new.cache)
  pub few : new.cache.count < 2 ^ 32
  pub caused : IfErr result (RefusesWrite old.cache new.cache)
  pub works : OnOk result (new.tree.spent ≡ false)
  pub spent : OnErr result (new.tree.spent ≡ true)
  pub counted : OnOk result (new.legs ≡ min (old.legs + length legs) (2 ^ 64 - 1))

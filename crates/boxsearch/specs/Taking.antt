-- An index whose legs came in any order, and what legs make of it.
use Rattle.std.specs.Prelude.{ℕ, ◌≡◌, List, ◌++◌, map, length, slice_get, slice_index_or, Some, IsTrue, true, false, Result, OnOk, OnErr, IfErr, IsErrOf}
use Rattle.legs.specs.Asking.{IsLater}
use Rattle.legs.specs.Index.{feature_count, HasRisen, MayRefuseLeg}
use Rattle.legs.specs.Legs.{LegView}
use Rattle.legs.specs.Places.{no_leg}
use Rattle.legs.specs.declared.index.IndexFault.{IndexFault}
use Rattle.legs.specs.declared.index.IndexFault.TheVariants.{Spent, Store, StoreFull}
use Rattle.tbtree.specs.Insert.{IsPlace}
use Rattle.tbtree.specs.Joining.{CanTakeInTurn, Holds}
use Rattle.tbtree.specs.Nodes.{pages_of_cache}
use Rattle.tbtree.specs.Shape.{IsShape}
use Rattle.tbtree.specs.declared.tree.Place.{Place}
use Rattle.boxsearch.specs.Index.{IndexView, words, IsMarked}
use Rattle.boxsearch.specs.declared.turns.Turn.{Turn}

-- over a faithful store, all of whose pages its cache counts, and not spent, its pages hold the legs, which it counts,
-- and each feature has its place
pub record HoldsLegs (i : IndexView) (legs : List LegView) : Type 0 where
  pub faithful : IsTrue i.cache.store.is_faithful
  pub works : i.tree.spent ≡ false
  pub shape : IsShape i.tree.shape
  pub count : i.cache.count ≡ i.cache.store.count
  pub pages : ℕ → List ℕ
  pub holds : Holds (pages_of_cache i.cache) i.tree legs pages
  pub counted : i.legs ≡ length legs
  pub features : length i.places ≡ feature_count legs
  pub placed : (feature : ℕ) (place : Place) → slice_get i.places feature ≡ Some place
      → IsPlace i.tree legs pages feature place

-- what legs make of an index that is not spent, accepted or refused
pub record Taking (old new : IndexView) (legs : List LegView)
    (result : Result (Unit {0}) IndexFault) : Type 0 where
  pub takes : OnOk result
      ((before : List LegView) → HoldsLegs old before → CanTakeInTurn before legs
      → HoldsLegs new (before ++ legs))
  pub later : IsLater words old new
  pub works : OnOk result (new.tree.spent ≡ false)
  pub spent : OnErr result (new.tree.spent ≡ true)
  pub refused : IfErr result
      (λ fault. (before : List LegView) → HoldsLegs old before → CanTakeInTurn before legs
      → MayRefuseLeg fault)
  pub store : IsErrOf result Store → HasRisen old.cache.store.faults new.cache.store.faults
  pub full : IsErrOf result StoreFull → new.cache.count ≡ new.cache.store.most
  pub works_on : IsErrOf result Spent → ⊥
  pub marked : IsMarked old.cache → IsMarked new.cache

-- the legs that turns take
abbrev pub taken : List LegView → List Turn → List LegView
taken legs turns = map (λ turn. slice_index_or legs turn.place no_leg) turns

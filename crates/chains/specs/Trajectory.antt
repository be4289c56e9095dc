-- What the retrieval of a feature's legs gives, over pages that stand for a list of legs and over any pages.
use Rattle.std.specs.Prelude.{ℕ, ◌≡◌, List, Option, Some, None, Result, IsTrue, IfErr, IfOk, OnOk}
use Rattle.timebase.specs.Period.{PeriodView}
use Rattle.legs.specs.Boxes.{BoxView}
use Rattle.legs.specs.Costs.{ShapeView, RisesBy, RisesAtMost, track_cost, track_in_bound}
use Rattle.legs.specs.Index.{legs_of, live_legs_of}
use Rattle.legs.specs.Legs.{LegView}
use Rattle.legs.specs.declared.sieve.Sieve.{Sieve}
use Rattle.pagecache.specs.Cache.{Cache}
use Rattle.tbtree.specs.Faults.{GivesRead, IfNamed}
use Rattle.tbtree.specs.Insert.{Stands, IsPlace}
use Rattle.tbtree.specs.Nodes.{Pages, pages_of_cache}
use Rattle.tbtree.specs.declared.fault.TreeFault.{TreeFault}
use Rattle.tbtree.specs.declared.tree.Place.{Place}
use Rattle.tbtree.specs.declared.tree.TbTree.{TbTree}
use Rattle.chains.specs.Chains.{IsPlaceChain, IsOffPlaceChain, chain_legs}
use Rattle.chains.specs.Reads.{Reads}
use Rattle.chains.specs.Spans.{IsKnown}
use Rattle.chains.specs.Taking.{IsTaken}
use Rattle.chains.specs.declared.spans.LeafSpan.{LeafSpan}

-- the pages and a tree of the shape stand for the legs, and the place is the feature's
pub record HasFeature (nodes : Pages LegView BoxView) (shape : ShapeView)
    (place : Place) (feature : ℕ)
    (legs : List LegView) : Type 0 where
  pub tree : TbTree
  pub pages : ℕ → List ℕ
  pub shape_is : tree.shape ≡ shape
  pub stands : Stands nodes tree legs pages
  pub placed : IsPlace tree legs pages feature place

-- the feature's legs; where there is a period, those that are live in it
abbrev pub kept_of : (feature : ℕ) → Option PeriodView → List LegView → List LegView
kept_of feature None legs = legs_of feature legs
kept_of feature (Some period) legs = live_legs_of feature period legs

-- one page is asked for for each leaf of the feature; where there is a period, at most one leaf more than those with a leg
-- that ends no earlier than it starts
abbrev pub AsksFor : (feature : ℕ) → Option PeriodView → ShapeView → List LegView → (old new : ℕ)
    → Type 0
AsksFor feature None shape legs old new = RisesBy old new (track_cost feature (Some shape) legs)
AsksFor feature (Some period) shape legs old new =
    RisesAtMost old new (track_in_bound feature period (Some shape) legs)

-- what the retrieval of a feature's legs, or of those that are live in a period, gives and leaves; of these a sieve
-- keeps some
pub record RetrievalCall {T : Type 0} (period : Option PeriodView) (sieve : Sieve)
    (shape : ShapeView) (feature : ℕ) (place : Place) (old new : Cache) (spans : List LeafSpan)
    (items : T → List LegView) (result : Result T TreeFault) : Type 0 where
  -- of pages that stand for a list: what is kept of the feature's legs; only a failed store and want of memory refuse
  pub found : IsTrue old.store.is_faithful → (legs : List LegView)
      → HasFeature (pages_of_cache old) shape place feature legs
      → GivesRead result
      (λ found. IsTaken period sieve (kept_of feature period legs) (items found))
  -- over such pages it asks for no more than is to be read
  pub asked : IsTrue old.store.is_faithful → (legs : List LegView)
      → HasFeature (pages_of_cache old) shape place feature legs
      → OnOk result (AsksFor feature period shape legs old.asked new.asked)
  -- of any pages: they are the chain of the place, as far as it is read
  pub chain : IsTrue old.store.is_faithful
      → OnOk result (IsPlaceChain (pages_of_cache old) period shape feature place)
  -- what is kept of that chain is given, in order
  pub legs : IsTrue old.store.is_faithful
      → IfOk result (λ found. IsTaken period sieve
      (chain_legs (pages_of_cache old) period shape place) (items found))
  -- a page that an error names is met on the way back along it, and is not the chain's
  pub named : IsTrue old.store.is_faithful
      → IfErr result (IfNamed (IsOffPlaceChain (pages_of_cache old) period shape feature place))
  -- what is known of the chain's last leaves is true after it
  pub learns : IsTrue old.store.is_faithful
      → IsKnown (pages_of_cache old) shape feature place spans
  -- no page changes, and a fault says what is so
  pub reads : Reads old new result

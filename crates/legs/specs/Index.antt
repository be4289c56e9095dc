-- What is asked of a list of legs.
use Rattle.std.specs.Prelude.{ℕ, ◌≡◌, ◌+◌, ◌==◌, ◌≤◌, ◌^◌, ◌-◌, Bool, if◌then◌else◌, max, min, List, [], ◌∷◌, ◌++◌, length, filter, fold, Option, Some, None, ℤ, ◌≤ℤ◌}
use Rattle.std.specs.Option.{ForSome}
use Rattle.timebase.specs.Period.{PeriodView}
use Rattle.legs.specs.Legs.{LegView, is_live}
use Rattle.legs.specs.Boxes.{BoxView, box_of, boxes_meet}
use Rattle.legs.specs.declared.index.IndexFault.{IndexFault}
use Rattle.legs.specs.declared.index.IndexFault.TheVariants.{Memory, Store, StoreFull}

-- the legs whose box meets a box
abbrev pub legs_in_box : BoxView → List LegView → List LegView
legs_in_box query legs = filter (λ leg. boxes_meet (box_of leg) query) legs

-- a leg of that feature
abbrev pub is_of : ℕ → LegView → Bool
is_of feature leg = leg.feature == feature

-- the legs of a feature
abbrev pub legs_of : ℕ → List LegView → List LegView
legs_of feature legs = filter (is_of feature) legs

-- the legs of a feature that have a moment in a period
abbrev pub live_legs_of : ℕ → PeriodView → List LegView → List LegView
live_legs_of feature period legs = filter (is_live period) (legs_of feature legs)

-- how many features there are: they are numbered from 0 in the order of their first legs
abbrev pub feature_count : List LegView → ℕ
feature_count legs = fold (λ count leg. max count (leg.feature + 1)) 0 legs

-- none of the legs skips a feature: each is of one that is there, or of the next one
abbrev pub SkipNone : (features : ℕ) → List LegView → Type 0
SkipNone features [] = Unit {0}
SkipNone features (leg ∷ legs) =
    (leg.feature ≤ features) × SkipNone (max features (leg.feature + 1)) legs

-- when the last leg of a feature ends
abbrev pub last_end : ℕ → List LegView → Option ℤ
last_end feature legs =
    fold (λ end leg. if leg.feature == feature then Some leg.t1 else end) None legs

-- a leg may be put at the end of the list
pub record CanFollow (legs : List LegView) (leg : LegView) : Type 0 where
  -- its ordinal is its place
  pub ordinal : leg.ordinal ≡ length legs
  -- its feature is there, or is the next one
  pub feature : leg.feature ≤ feature_count legs
  -- it does not begin before its feature's last leg ends
  pub time : ForSome (last_end leg.feature legs) (λ end. end ≤ℤ leg.t0)

-- these legs may be put at the end of the list, one after another
abbrev pub CanFollowInTurn : List LegView → List LegView → Type 0
CanFollowInTurn legs [] = Unit {0}
CanFollowInTurn legs (leg ∷ others) = CanFollow legs leg × CanFollowInTurn (legs ++ leg ∷ []) others

-- a store's count of faults rose; where it stood at the greatest number that is counted, it stays there
abbrev pub HasRisen : ℕ → ℕ → Type 0
HasRisen old new = min (old + 1) (2 ^ 64 - 1) ≤ new

-- a fault that a sound index may answer to a question
abbrev pub MayRefuse : IndexFault → Type 0
MayRefuse Memory = Unit {0}
MayRefuse Store = Unit {0}
MayRefuse _ = ⊥

-- a fault that a sound index may answer to a leg that may follow
abbrev pub MayRefuseLeg : IndexFault → Type 0
MayRefuseLeg Memory = Unit {0}
MayRefuseLeg Store = Unit {0}
MayRefuseLeg StoreFull = Unit {0}
MayRefuseLeg _ = ⊥

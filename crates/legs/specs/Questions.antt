-- What is asked of an index of legs.
use Rattle.std.specs.Prelude.{ℕ, List, Option, Some, None}
use Rattle.timebase.specs.Period.{PeriodView}
use Rattle.legs.specs.Boxes.{BoxView}
use Rattle.legs.specs.Index.{legs_in_box, legs_of, live_legs_of}
use Rattle.legs.specs.Legs.{LegView}

-- for the legs whose box meets a box, or for the legs of a feature: all, or those that are live in a period
pub data Question : Type 0 where
  InBox : BoxView → Question
  OfFeature : ℕ → Option PeriodView → Question

-- the legs of a list that answer it
abbrev pub answer_in : Question → List LegView → List LegView
answer_in (InBox query) legs = legs_in_box query legs
answer_in (OfFeature feature None) legs = legs_of feature legs
answer_in (OfFeature feature (Some period)) legs = live_legs_of feature period legs

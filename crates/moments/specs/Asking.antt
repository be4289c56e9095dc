-- Stays that a database tells, be it sound or not.
use Rattle.std.specs.Prelude.{List}
use Rattle.timebase.specs.Period.{PeriodView}
use Rattle.legs.specs.Legs.{LegView}
use Rattle.legs.specs.Boxes.{RectView, box_over}
use Rattle.legs.specs.Questions.{InBox}
use Rattle.legs.specs.declared.listed.Listed.{Ghosts}
use Rattle.trajdb.specs.Database.{CoreView}
use Rattle.moments.specs.Stays.{AreStays}
use Rattle.moments.specs.declared.stay.Stay.{Stay}

-- the stays of the legs that the index tells of the rectangle and the period
abbrev pub AreTold : {I : Type 0} → Ghosts I → CoreView I → RectView → PeriodView → List Stay
    → Type 0
AreTold g core rect period stays =
    (legs : List LegView) × g.tells core.index (InBox (box_over rect period)) legs
    × AreStays rect period legs stays

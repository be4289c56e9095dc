-- Parts of a zone: windows, and rings that are the zone in them.
use Rattle.std.specs.Prelude.{All, List, ◌≤ℤ◌, Option, Some, None}
use Rattle.zones.specs.Places.{Corner}
use Rattle.zone_windows.specs.Near.{AgreeIn}
use Rattle.zone_windows.specs.declared.near.Window.{Window}
use Rattle.zone_windows.specs.declared.part.Cut.{Cut}
use Rattle.zone_windows.specs.declared.part.Part.{Part}

-- Helpers of private functions.
-- the window has all points of another
pub record Holds (window other : Window) : Type 0 where
  pub left : window.left ≤ℤ other.left
  pub right : other.right ≤ℤ window.right
  pub low : window.low ≤ℤ other.low
  pub high : other.high ≤ℤ window.high

-- the part's rings are the zone in its window
pub record IsPartOf (whole : List (List Corner)) (part : Part) : Type 0 where
  pub agree : AgreeIn part.window part.rings.items whole

-- all parts are parts of the zone
abbrev pub ArePartsOf : List (List Corner) → List Part → Type 0
ArePartsOf whole parts = All (IsPartOf whole) parts

-- of each zone of which the one is a part, the other is a part too
pub record IsWithin (one other : Part) : Type 0 where
  pub part : (whole : List (List Corner)) → IsPartOf whole one → IsPartOf whole other

-- both parts of the cut are within the part
pub record IsCutOf (part : Part) (cut : Cut) : Type 0 where
  pub first : IsWithin part cut.first
  pub second : IsWithin part cut.second

-- if there is a cut, it is one of the part
abbrev pub AnyCutOf : Part → Option Cut → Type 0
AnyCutOf part None = Unit {0}
AnyCutOf part (Some cut) = IsCutOf part cut

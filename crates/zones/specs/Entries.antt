-- What is answered of the next entry of a course into a zone.
use Rattle.std.specs.Prelude.{List}
use Rattle.zones.specs.declared.cuts.CoursePlace.{CoursePlace}
use Rattle.zones.specs.declared.entries.Entry.{Entry}
use Rattle.zones.specs.declared.entries.Entry.TheVariants.{At, Never}
use Rattle.zones.specs.Places.{Corner, CourseView}
use Rattle.zones.specs.Stays.{IsEntry, IsNever}

-- Helper of a private function.
abbrev pub IsNextEntry : List (List Corner) → CourseView → CoursePlace → CoursePlace → Entry → Type 0
IsNextEntry rings course first last (At entry) = IsEntry rings course first last entry
IsNextEntry rings course first last Never = IsNever rings course first last

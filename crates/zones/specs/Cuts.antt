-- The cuts of a course that are its stays in a zone.
use Rattle.std.specs.Prelude.{true, ◌≡◌, ◌⊎◌, ◌↔◌, List, [], ◌∷◌, ℤ, pos, ◌*ℤ◌, ◌<ℤ◌, ◌≤ℤ◌}
use Rattle.zones.specs.declared.cuts.CoursePlace.{CoursePlace}
use Rattle.zones.specs.declared.cuts.Cut.{Cut}
use Rattle.zones.specs.Places.{Corner, CourseView, point_at}
use Rattle.zones.specs.Zones.{in_zone}

-- n / d is in the cut: from its first place to its last, both among them
pub record IsWithinCut (cut : Cut) (n d : ℤ) : Type 0 where
  pub after : (cut.lo.num *ℤ d) ≤ℤ (n *ℤ cut.lo.den)
  pub before : (n *ℤ cut.hi.den) ≤ℤ (cut.hi.num *ℤ d)

-- one of the cuts holds n / d
abbrev pub IsHeld : List Cut → ℤ → ℤ → Type 0
IsHeld [] n d = ⊥
IsHeld (cut ∷ cuts) n d = IsWithinCut cut n d ⊎ IsHeld cuts n d

-- all of the cuts begin after the place
abbrev pub AllAfter : CoursePlace → List Cut → Type 0
AllAfter place [] = Unit {0}
AllAfter place (cut ∷ cuts) = ((place.num *ℤ cut.lo.den) <ℤ (cut.lo.num *ℤ place.den)) × AllAfter place cuts

-- each cut ends before all later ones begin
abbrev pub AllApart : List Cut → Type 0
AllApart [] = Unit {0}
AllApart (cut ∷ cuts) = AllAfter cut.hi cuts × AllApart cuts

-- all of the cuts are from the one place to the other
abbrev pub AllBetween : CoursePlace → CoursePlace → List Cut → Type 0
AllBetween first last [] = Unit {0}
AllBetween first last (cut ∷ cuts) =
    ((first.num *ℤ cut.lo.den) ≤ℤ (cut.lo.num *ℤ first.den))
    × ((cut.hi.num *ℤ last.den) ≤ℤ (last.num *ℤ cut.hi.den))
    × AllBetween first last cuts

-- The cuts rise and do not touch, and from `first` to `last` the course is in the zone exactly where one of them holds it.
pub record IsStays (rings : List (List Corner)) (course : CourseView) (first last : CoursePlace) (cuts : List Cut) : Type 0 where
  pub apart : AllApart cuts
  pub between : AllBetween first last cuts
  pub exact :
      (n d : ℤ) → pos 0 <ℤ d → (first.num *ℤ d) ≤ℤ (n *ℤ first.den) → (n *ℤ last.den) ≤ℤ (last.num *ℤ d)
      → (in_zone rings (point_at course n d) ≡ true) ↔ IsHeld cuts n d

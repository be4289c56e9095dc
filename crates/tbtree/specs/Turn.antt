-- Legs of a feature that come one after another, and numbers that rise.
use Rattle.std.specs.Prelude.{ℕ, ◌≡◌, ◌<◌, List, [], ◌∷◌, Option, Some, None, ◌≤ℤ◌}
use Rattle.legs.specs.Legs.{LegView}

-- the last of some legs, after d
abbrev pub last_leg : Option LegView → List LegView → Option LegView
last_leg d [] = d
last_leg d (leg ∷ legs) = last_leg (Some leg) legs

-- the ordinal of the first of some legs
abbrev pub first_ordinal : List LegView → ℕ
first_ordinal [] = 0
first_ordinal (leg ∷ legs) = leg.ordinal

-- a leg comes after the one before it, if any: its ordinal is higher, and it does not begin before that one ends
abbrev pub ComesAfter : Option LegView → LegView → Type 0
ComesAfter None leg = Unit {0}
ComesAfter (Some last) leg = (last.ordinal < leg.ordinal) × (last.t1 ≤ℤ leg.t0)

-- legs of the feature, of so many rows, come one after another, after that one
abbrev pub ComeInTurn : (feature rows : ℕ) → Option LegView → List LegView → Type 0
ComeInTurn feature rows last [] = Unit {0}
ComeInTurn feature rows last (leg ∷ legs) =
    (leg.feature ≡ feature) × (leg.row < rows) × ComesAfter last leg
    × ComeInTurn feature rows (Some leg) legs

module _ {X : Type 0} (number : X → ℕ) where
  -- each number is above a
  abbrev pub IsPast : ℕ → List X → Type 0
  IsPast a [] = Unit {0}
  IsPast a (x ∷ xs) = (a < number x) × IsPast a xs

  -- each number is below the next one
  abbrev pub IsRising : List X → Type 0
  IsRising [] = Unit {0}
  IsRising (x ∷ xs) = IsPast (number x) xs × IsRising xs

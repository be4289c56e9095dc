-- Helpers of private functions: what the steps of reading say of an unsigned text.
use Rattle.std.specs.Prelude.{ℕ, ◌≡◌, ◌*◌, ◌-◌, ◌^◌, min, length, take, drop, true, false, List, [], ◌∷◌, Option, Some, None, if◌then◌else◌}
use Rattle.std.specs.List.{before_first, after_first, list_all}
use Rattle.std.specs.Char.{is_ascii_digit}
use Rattle.std.specs.Str.Parse.{digits_value, digits_value_after}
use Rattle.fixedpoint.specs.Number.{is_point, are_parts, magnitude}
use Rattle.fixedpoint.specs.declared.NumberFault.{NumberFault}
use Rattle.fixedpoint.specs.declared.NumberFault.TheVariants.{Shape}

-- where counting stops
abbrev pub cap : ℕ
cap = 1000000000000001

-- what a point leads in, where nothing else may stand
abbrev pub point_tail : List ℕ → Option (List ℕ)
point_tail [] = Some []
point_tail (c ∷ cs) = if is_point c then Some cs else None

-- the digits before the point, their number, how many they are, and what stands behind it
pub record AreParts (text : List ℕ) (whole whole_digits : ℕ) (fraction : List ℕ) : Type 0 where
  pub digits : list_all is_ascii_digit (before_first is_point text) ≡ true
  pub value : whole ≡ min cap (digits_value 10 (before_first is_point text))
  pub count : whole_digits ≡ length (before_first is_point text)
  pub behind : fraction ≡ after_first is_point text

-- the units of 10 ^ -places in front of a cut behind the places
abbrev pub cut_units : ℕ → List ℕ → List ℕ → ℕ
cut_units places whole fraction =
    digits_value_after 10 (digits_value 10 whole) (take places fraction) * 10 ^
    (places - length fraction)

-- a text cut behind so many places: the units in front, or both are past the greatest, and the digits behind
pub record IsCut (places : ℕ) (text : List ℕ) (front : ℕ) (behind : List ℕ) : Type 0 where
  pub parts : are_parts (before_first is_point text) (after_first is_point text) ≡ true
  pub units : min cap front
      ≡ min cap (cut_units places (before_first is_point text) (after_first is_point text))
  pub dropped : behind ≡ drop places (after_first is_point text)
  pub digits : list_all is_ascii_digit behind ≡ true

-- m units are what the text writes, or both are past the greatest
pub record IsMagnitude (units : ℕ) (text : List ℕ) (m : ℕ) : Type 0 where
  pub parts : are_parts (before_first is_point text) (after_first is_point text) ≡ true
  pub value : min cap m
      ≡ min cap (magnitude units (before_first is_point text) (after_first is_point text))

-- the text is none of digits and a point
pub record IsRefused (text : List ℕ) (fault : NumberFault) : Type 0 where
  pub shape : fault ≡ Shape
  pub parts : are_parts (before_first is_point text) (after_first is_point text) ≡ false

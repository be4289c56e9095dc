-- What a number read and a number printed are, in the words of decimal numbers.
use Rattle.std.specs.Prelude.{ℕ, ◌+◌, ◌*◌, ◌^◌, ◌≤◌, ◌<◌, ◌≡◌, ◌↔◌, true, List, ◌++◌, length, ℤ, pos, ◌<ℤ◌, unsigned_abs}
use Rattle.std.specs.List.{list_any}
use Rattle.std.specs.Str.Parse.{digits_value}
use Rattle.fixedpoint.specs.Number.{is_number_text, is_negative, is_point, whole_part, fraction_part}

-- all digits of a text, read as one whole number
abbrev pub digits_of_text : List ℕ → ℕ
digits_of_text text = digits_value 10 (whole_part text ++ fraction_part text)

-- z is the nearest number of units, half away from zero: where 1 is so many units, n are the digits of the
-- text, and f of them stand behind the point, its magnitude is the greatest m with
-- 2 * m * 10 ^ f ≤ 2 * n * units + 10 ^ f
abbrev pub IsNearest : ℕ → List ℕ → ℤ → Type 0
IsNearest units text z =
    let n = digits_of_text text in
    let f = length (fraction_part text) in
    (m : ℕ) → (m ≤ unsigned_abs z) ↔ (2 * (m * 10 ^ f) ≤ 2 * (n * units) + 10 ^ f)

-- the text is worth exactly z units of 10 ^ -s, and is written as a number is printed
pub record WritesExactly (s : ℕ) (z : ℤ) (text : List ℕ) : Type 0 where
  pub shape : is_number_text text ≡ true
  -- no rounding
  pub value : digits_of_text text * 10 ^ s ≡ unsigned_abs z * 10 ^ length (fraction_part text)
  -- '-' exactly where the number is negative
  pub sign : (is_negative text ≡ true) ↔ (z <ℤ pos 0)
  -- a digit before the point
  pub before : 0 < length (whole_part text)
  -- and a digit behind a point
  pub behind : list_any is_point text ≡ true → 0 < length (fraction_part text)

-- no text that is written so is shorter
abbrev pub IsShortest : ℕ → ℤ → List ℕ → Type 0
IsShortest s z text = (other : List ℕ) → WritesExactly s z other → length text ≤ length other

-- Number texts, and the whole numbers of units that they stand for.
use Rattle.std.specs.Prelude.{ℕ, ◌+◌, ◌*◌, ◌/◌, ◌^◌, ◌==◌, nat_lt, nat_le, Bool, ◌&&◌, ◌||◌, if◌then◌else◌, List, ◌++◌, length, Result, Ok, Err, ℤ, pos, neg_ℤ, unsigned_abs, ◌≤◌, slice_index, drop, Option, Some, None}
use Rattle.std.specs.List.{before_first, after_first, list_all}
use Rattle.std.specs.Char.{is_ascii_digit}
use Rattle.std.specs.Str.Parse.{digits_value}
use Rattle.fixedpoint.specs.declared.NumberFault.{NumberFault}
use Rattle.fixedpoint.specs.declared.NumberFault.TheVariants.{Shape, Range}

-- a '-' in front
abbrev pub is_negative : List ℕ → Bool
is_negative text = slice_index text 0 == 45

-- a '+' or a '-' in front
abbrev pub has_sign : List ℕ → Bool
has_sign text = (slice_index text 0 == 43) || is_negative text

-- the text behind its sign
abbrev pub unsigned_text : List ℕ → List ℕ
unsigned_text text = if has_sign text then drop 1 text else text

-- the byte is a decimal point
abbrev pub is_point : ℕ → Bool
is_point c = c == 46

-- what stands before the first point
abbrev pub whole_part : List ℕ → List ℕ
whole_part text = before_first is_point (unsigned_text text)

-- what stands behind the first point
abbrev pub fraction_part : List ℕ → List ℕ
fraction_part text = after_first is_point (unsigned_text text)

-- nothing but digits, and at least one
abbrev pub are_parts : List ℕ → List ℕ → Bool
are_parts whole fraction =
    list_all is_ascii_digit (whole ++ fraction) && nat_lt 0 (length (whole ++ fraction))

-- a sign or none, digits with at most one point, at least one digit, at most 40 bytes
abbrev pub is_number_text : List ℕ → Bool
is_number_text text = nat_le (length text) 40 && are_parts (whole_part text) (fraction_part text)

-- n / 10 ^ f, where 1 is so many units: the greatest m with 2 * m * 10 ^ f ≤ 2 * n * units + 10 ^ f
abbrev pub rounded : ℕ → ℕ → ℕ → ℕ
rounded units f n = (2 * (n * units) + 10 ^ f) / (2 * 10 ^ f)

-- whole and fraction read as the digits of one number, where 1 is so many units
unfoldable pub magnitude : ℕ → List ℕ → List ℕ → ℕ
magnitude units whole fraction =
    rounded units (length fraction) (digits_value 10 (whole ++ fraction))

-- a number of that magnitude, below 0 or not
abbrev pub signed : Bool → ℕ → ℤ
signed negative m = if negative then neg_ℤ (pos m) else pos m

-- the greatest magnitude of a coordinate (100000000) and of an offset (1000000000000 s), in their units
abbrev pub most : ℕ
most = 1000000000000000

-- a number of units that a coordinate or an offset may have
abbrev pub IsInRange : ℤ → Type 0
IsInRange z = unsigned_abs z ≤ most

-- that number of units, if it is in range
abbrev pub units_within : ℤ → Option ℤ
units_within z = if nat_le (unsigned_abs z) most then Some z else None

-- what a text reads as, where 1 is so many units
unfoldable pub number_of : ℕ → List ℕ → Result ℤ NumberFault
number_of units text =
    if is_number_text text then (
    let m = magnitude units (whole_part text) (fraction_part text) in
    if nat_le m most then Ok (signed (is_negative text) m) else Err Range)
    else Err Shape

-- a coordinate is kept in units of 10 ^ -7
abbrev pub coord_of : List ℕ → Result ℤ NumberFault
coord_of text = number_of (10 ^ 7) text

-- an offset is kept in milliseconds, and written in seconds
abbrev pub offset_of : List ℕ → Result ℤ NumberFault
offset_of text = number_of (10 ^ 3) text

-- or in minutes
abbrev pub minutes_of : List ℕ → Result ℤ NumberFault
minutes_of text = number_of 60000 text

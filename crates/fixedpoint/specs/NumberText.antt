-- What is printed of a whole number of units.
use Rattle.std.specs.Prelude.{ℕ, ◌+◌, ◌*◌, ◌/◌, ◌%◌, ◌^◌, ◌==◌, if◌then◌else◌, List, [], ◌∷◌, ◌++◌, ℤ, pos, negsuc, zero, suc, decimal, unsigned_abs}

-- the digits of r / p behind the point: by long division, until nothing is left
unfoldable pub fraction_digits : ℕ → ℕ → ℕ → List ℕ
fraction_digits zero p r = []
fraction_digits (suc k) p r =
    if r == 0 then [] else (48 + r * 10 / p) ∷ fraction_digits k p (r * 10 % p)

-- a point and those digits, or nothing
abbrev pub pointed : ℕ → ℕ → ℕ → List ℕ
pointed s p r = if r == 0 then [] else 46 ∷ fraction_digits s p r

-- what is printed of n units of 10 ^ -s
abbrev pub plain_text : ℕ → ℕ → List ℕ
plain_text s n = decimal (n / 10 ^ s) ++ pointed s (10 ^ s) (n % 10 ^ s)

-- `-` in front of a number below 0
abbrev pub sign_text : ℤ → List ℕ
sign_text (pos n) = []
sign_text (negsuc n) = 45 ∷ []

-- the text of a number of units of 10 ^ -s
abbrev pub number_text : ℕ → ℤ → List ℕ
number_text s z = sign_text z ++ plain_text s (unsigned_abs z)

-- the text of a coordinate, in units of 10 ^ -7
abbrev pub coord_text : ℤ → List ℕ
coord_text z = number_text 7 z

-- the text of an offset, in seconds, of its milliseconds
abbrev pub offset_text : ℤ → List ℕ
offset_text z = number_text 3 z

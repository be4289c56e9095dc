-- Which part a feature belongs to.
use Rattle.std.specs.Prelude.{ℕ, ◌+◌, ◌*◌, ◌%◌, ◌==◌, Bool, List, fold}

-- one byte more of a name
abbrev pub number_with : ℕ → ℕ → ℕ
number_with number c = (number * 257 + c) % 4294967291

-- the number of a name: its bytes as digits to the base 257, modulo 2^32 - 5, which is a prime
abbrev pub number_of : List ℕ → ℕ
number_of name = fold number_with 0 name

-- its cube modulo the same prime, so that names that follow one another fall apart; 3 does not divide 2^32 - 6, so no
-- two numbers have one cube
abbrev pub cube_of : ℕ → ℕ
cube_of number = ((number * number) % 4294967291 * number) % 4294967291

-- the part, of n, that a name belongs to
unfoldable pub part_of : ℕ → List ℕ → ℕ
part_of n name = cube_of (number_of name) % n

-- the name belongs to part k of n
abbrev pub is_in : ℕ → ℕ → List ℕ → Bool
is_in k n name = part_of n name == k

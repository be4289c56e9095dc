-- Parts of a list of bytes.
use Rattle.std.specs.Prelude.{ℕ, zero, suc, ◌+◌, ◌*◌, ℤ, Bool, true, ◌&&◌, List, ◌++◌, take, drop, length}
use Rattle.std.specs.Int.{w64, cast_signed, cast_unsigned}
use Rattle.byteorder.specs.Endian.{big_bytes, big_number}

-- n bytes from a place on
unfoldable pub part : ℕ → ℕ → List ℕ → List ℕ
part place n bytes = take n (drop place bytes)

-- the bytes with others written over them from a place on
unfoldable pub put : ℕ → List ℕ → List ℕ → List ℕ
put place new bytes = take place bytes ++ (new ++ drop (place + length new) bytes)

-- the number in the n bytes from a place on
unfoldable pub number_at : ℕ → ℕ → List ℕ → ℕ
number_at n place bytes = big_number n (part place n bytes)

-- the signed number in the 8 bytes from a place on
unfoldable pub signed_at : ℕ → List ℕ → ℤ
signed_at place bytes = cast_signed w64 (number_at 8 place bytes)

-- the 8 bytes of a signed number
abbrev pub signed_bytes : ℤ → List ℕ
signed_bytes z = big_bytes 8 (cast_unsigned w64 z)

-- behind a head of 16 bytes, the i-th m bytes
abbrev pub slot : ℕ → ℕ → List ℕ → List ℕ
slot m i bytes = part (16 + m * i) m bytes

-- a test holds of each number below n
abbrev pub all_below : (ℕ → Bool) → ℕ → Bool
all_below p zero = true
all_below p (suc n) = all_below p n && p n

-- What is laid out field by field is the layout, and reads back.
use Rattle.std.proofs.Common.{◌≡◌, ℕ, ℤ, List, replicate, refl, ap, ◌∙◌}
use Rattle.std.specs.Int.{w64, cast_unsigned, cast_signed}
use Rattle.std.specs.Int.RustNames.{FitsSigned}
use Rattle.std.proofs.lemmas.Int.{to_z-of_z}
use Rattle.byteorder.specs.Endian.{big_bytes}
use Rattle.legs.specs.Legs.{LegView}
use Rattle.legs.specs.Boxes.{BoxView}
use Rattle.tbnode.specs.Nodes.{EntryView}
use Rattle.tbnode.specs.Parts.{put, signed_bytes}
use Rattle.tbnode.specs.Layout.{leg_bytes, entry_bytes}

-- one field more
pub put_signed : (p : ℕ) (n z : ℤ) (was from to : List ℕ) → to ≡ put p (signed_bytes n) from → n ≡ z → from ≡ was
    → to ≡ put p (signed_bytes z) was
put_signed p n z was from to e same before =
    e ∙ ap (λ k. put p (signed_bytes k) from) same ∙ ap (put p (signed_bytes z)) before

-- a number is given to a call as its bits
pub put_bits : (p : ℕ) (n z : ℤ) (was from to : List ℕ) → FitsSigned w64 n
    → to ≡ put p (signed_bytes (cast_signed w64 (cast_unsigned w64 n))) from → n ≡ z → from ≡ was
    → to ≡ put p (signed_bytes z) was
put_bits p n z was from to f e same before =
    put_signed p (cast_signed w64 (cast_unsigned w64 n)) z was from to e (to_z-of_z w64 n f ∙ same) before

pub put_number : (m p n k : ℕ) (was from to : List ℕ) → to ≡ put p (big_bytes m n) from → n ≡ k → from ≡ was
    → to ≡ put p (big_bytes m k) was
put_number m p n k was from to e same before =
    e ∙ ap (λ j. put p (big_bytes m j) from) same ∙ ap (put p (big_bytes m k)) before

-- the fields of a leg written over zeros
abbrev pub leg_start : LegView → List ℕ
leg_start l =
    put 40 (signed_bytes l.z0) (put 32 (signed_bytes l.y0) (put 24 (signed_bytes l.x0)
    (put 16 (signed_bytes l.t1) (put 8 (signed_bytes l.t0) (put 0 (big_bytes 8 l.ordinal) (replicate 80 0))))))

abbrev pub leg_filled : LegView → List ℕ
leg_filled l =
    put 72 (big_bytes 4 l.row) (put 64 (signed_bytes l.z1) (put 56 (signed_bytes l.y1) (put 48 (signed_bytes l.x1) (leg_start l))))

pub leg_filled-is : (l : LegView) → leg_filled l ≡ leg_bytes l
unfolding put leg_bytes
leg_filled-is l = refl

abbrev pub entry_filled : EntryView BoxView → List ℕ
entry_filled e =
    put 48 (signed_bytes e.bounds.t_max) (put 40 (signed_bytes e.bounds.y_max) (put 32 (signed_bytes e.bounds.x_max)
    (put 24 (signed_bytes e.bounds.t_min) (put 16 (signed_bytes e.bounds.y_min) (put 8 (signed_bytes e.bounds.x_min)
    (put 0 (big_bytes 4 e.child) (replicate 56 0)))))))

pub entry_filled-is : (e : EntryView BoxView) → entry_filled e ≡ entry_bytes e
unfolding put entry_bytes
entry_filled-is e = refl

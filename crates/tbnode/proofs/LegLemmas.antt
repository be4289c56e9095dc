-- The bytes of a leg and of an entry read back.
use Rattle.std.proofs.Common.{◌≡◌, ℕ, ℤ, ◌^◌, ◌<◌, ◌==◌, Bool, true, ◌&&◌, [], ◌++◌, length, refl, ap, ◌∙◌, arith, unsigned_abs, Some}
use Rattle.std.specs.Prelude.{◌<ℤ◌, ◌≤ℤ◌, int_le, int_lt, if◌then◌else◌, Option, None}
use Rattle.std.specs.Option.{is_some}
use Rattle.std.specs.Int.{w64, cast_unsigned, cast_signed}
use Rattle.std.specs.Int.RustNames.{FitsSigned}
use Rattle.std.proofs.lemmas.Int.{ints, to_z-of_z, fits_signed_from_abs}
use Rattle.std.proofs.lemmas.Bool.{le-leb}
use Rattle.std.proofs.Math.Facts.{Fits-of_z}
use Rattle.byteorder.specs.Endian.{big_bytes, big_number}
use Rattle.byteorder.specs.Numbers.{big_number-reads_back}
use Rattle.fixedpoint.specs.Number.{IsInRange, units_within, most}
use Rattle.timebase.specs.Instant.{IsMoment, some_moment, is_moment, least_moment, greatest_moment}
use Rattle.legs.specs.Legs.{LegView, IsLeg}
use Rattle.legs.specs.Boxes.{BoxView, IsBox}
use Rattle.tbnode.specs.Nodes.{EntryView}
use Rattle.tbnode.specs.Parts.{part, number_at, signed_at}
use Rattle.tbnode.specs.Layout.{leg_bytes, leg_from_bytes, is_leg, has_moments, has_start, has_end, entry_bytes, entry_from_bytes, bounds_from_bytes, is_entry, is_box}
use Rattle.tbnode.specs.Steps.{LegReadsBack, EntryReadsBack}
use Rattle.tbnode.proofs.ListLemmas.{and_both}

-- a signed number is read back
read_back : (z : ℤ) → FitsSigned w64 z → cast_signed w64 (big_number 8 (big_bytes 8 (cast_unsigned w64 z) ++ [])) ≡ z
read_back z f =
    let below : cast_unsigned w64 z < 256 ^ 8 = omega (arith, Fits-of_z f) in
    ap (cast_signed w64) (big_number-reads_back 8 (cast_unsigned w64 z) [] below) ∙ to_z-of_z w64 z f

coord_fits : (z : ℤ) → IsInRange z → FitsSigned w64 z
coord_fits z h = fits_signed_from_abs w64 z (omega (arith, h))

moment_small : (z : ℤ) → IsMoment z → unsigned_abs z < 2 ^ 63
moment_small z h = grind (arith, ints, h.0, h.1)

moment_fits : (z : ℤ) → IsMoment z → FitsSigned w64 z
moment_fits z h = fits_signed_from_abs w64 z (moment_small z h)

le_to : (x y : ℤ) → x ≤ℤ y → int_le x y ≡ true
le_to x y h = grind (arith, ints)

lt_to : (x y : ℤ) → x <ℤ y → int_lt x y ≡ true
lt_to x y h = grind (arith, ints)

moment_some : (z : ℤ) → IsMoment z → is_some (some_moment z) ≡ true
moment_some z h =
    let e : is_moment z ≡ true = and_both (int_le least_moment z) (int_le z greatest_moment) (le_to least_moment z h.0) (le_to z greatest_moment h.1) in
    let o : Bool → Option ℤ = λ b. if b then Some z else None in
    ap (λ b. is_some (o b)) e

coord_some : (z : ℤ) → IsInRange z → is_some (units_within z) ≡ true
coord_some z h =
    let o : Bool → Option ℤ = λ b. if b then Some z else None in
    ap (λ b. is_some (o b)) (le-leb (unsigned_abs z) most h)

-- three coordinates in range are each some coordinate
three_some : (x y z : ℤ) → IsInRange x → IsInRange y → IsInRange z → (is_some (units_within x) && is_some (units_within y) && is_some (units_within z)) ≡ true
three_some x y z in_x in_y in_z =
    let a = is_some (units_within x) in
    let b = is_some (units_within y) in
    and_both (a && b) (is_some (units_within z)) (and_both a b (coord_some x in_x) (coord_some y in_y)) (coord_some z in_z)

module _ (l : LegView) where
  pub length-leg_bytes : length (leg_bytes l) ≡ 80
  unfolding leg_bytes
  length-leg_bytes = refl

  zero_of : number_at 4 76 (leg_bytes l) ≡ 0
  unfolding leg_bytes number_at part
  zero_of = refl

  -- the bytes of a lawful leg, read as a leg of a feature, say that leg
  leg_same : (f : ℕ) → l.ordinal < 2 ^ 64 → l.row < 2 ^ 32 → IsLeg l → leg_from_bytes f (leg_bytes l) ≡ record l { feature = f }
  unfolding leg_from_bytes leg_bytes signed_at number_at part
  leg_same f o r k = λ i. record {
    ordinal = big_number-reads_back 8 l.ordinal [] o i;
    feature = f;
    t0 = read_back l.t0 (moment_fits l.t0 k.t0) i;
    t1 = read_back l.t1 (moment_fits l.t1 k.t1) i;
    x0 = read_back l.x0 (coord_fits l.x0 k.x0) i;
    y0 = read_back l.y0 (coord_fits l.y0 k.y0) i;
    z0 = read_back l.z0 (coord_fits l.z0 k.z0) i;
    x1 = read_back l.x1 (coord_fits l.x1 k.x1) i;
    y1 = read_back l.y1 (coord_fits l.y1 k.y1) i;
    z1 = read_back l.z1 (coord_fits l.z1 k.z1) i;
    row = big_number-reads_back 4 l.row [] r i;
  }

  moments_laid : IsLeg l → has_moments l ≡ true
  unfolding has_moments
  moments_laid k =
      and_both (int_lt l.t0 l.t1 && is_some (some_moment l.t0)) (is_some (some_moment l.t1))
      (and_both (int_lt l.t0 l.t1) (is_some (some_moment l.t0)) (lt_to l.t0 l.t1 k.rises) (moment_some l.t0 k.t0)) (moment_some l.t1 k.t1)

  start_laid : IsLeg l → has_start l ≡ true
  unfolding has_start
  start_laid k = three_some l.x0 l.y0 l.z0 k.x0 k.y0 k.z0

  end_laid : IsLeg l → has_end l ≡ true
  unfolding has_end
  end_laid k = three_some l.x1 l.y1 l.z1 k.x1 k.y1 k.z1

-- the tests of a leg do not look at its feature
abbrev of_none : LegView → LegView
of_none l = record l { feature = 0 }

lawful_of_none : (l : LegView) → IsLeg l → IsLeg (of_none l)
lawful_of_none l k = record { rises = k.rises; t0 = k.t0; t1 = k.t1; x0 = k.x0; y0 = k.y0; z0 = k.z0; x1 = k.x1; y1 = k.y1; z1 = k.z1 }

module _ (l : LegView) where
  leg_lawful : l.ordinal < 2 ^ 64 → l.row < 2 ^ 32 → IsLeg l → is_leg (leg_bytes l) ≡ true
  unfolding is_leg
  leg_lawful o r k =
      let tests : LegView → Bool = λ v. has_moments v && has_start v && has_end v in
      let v = of_none l in
      let laid = lawful_of_none l k in
      and_both (tests (leg_from_bytes 0 (leg_bytes l))) (number_at 4 76 (leg_bytes l) == 0)
      (ap tests (leg_same l 0 o r k)
      ∙ and_both (has_moments v && has_start v) (has_end v)
      (and_both (has_moments v) (has_start v) (moments_laid v laid) (start_laid v laid)) (end_laid v laid))
      (ap (λ n. n == 0) (zero_of l))

  pub leg_reads_back : l.ordinal < 2 ^ 64 → l.row < 2 ^ 32 → IsLeg l → LegReadsBack l
  leg_reads_back o r k = record { lawful = leg_lawful o r k; same = leg_same l l.feature o r k }

-- each bound fits its bytes
pub record BoundsFit (b : BoxView) : Type 0 where
  pub x_min : FitsSigned w64 b.x_min
  pub y_min : FitsSigned w64 b.y_min
  pub t_min : FitsSigned w64 b.t_min
  pub x_max : FitsSigned w64 b.x_max
  pub y_max : FitsSigned w64 b.y_max
  pub t_max : FitsSigned w64 b.t_max

module _ (e : EntryView BoxView) where
  child_of : e.child < 2 ^ 32 → number_at 4 0 (entry_bytes e) ≡ e.child
  unfolding entry_bytes number_at part
  child_of h = big_number-reads_back 4 e.child [] h

  gap_of : number_at 4 4 (entry_bytes e) ≡ 0
  unfolding entry_bytes number_at part
  gap_of = refl

  pub length-entry_bytes : length (entry_bytes e) ≡ 56
  unfolding entry_bytes
  length-entry_bytes = refl

  bounds_same : BoundsFit e.bounds → bounds_from_bytes (entry_bytes e) ≡ e.bounds
  unfolding bounds_from_bytes entry_bytes signed_at number_at part
  bounds_same f = λ i. record {
    x_min = read_back e.bounds.x_min f.x_min i;
    y_min = read_back e.bounds.y_min f.y_min i;
    t_min = read_back e.bounds.t_min f.t_min i;
    x_max = read_back e.bounds.x_max f.x_max i;
    y_max = read_back e.bounds.y_max f.y_max i;
    t_max = read_back e.bounds.t_max f.t_max i;
  }

  entry_same : e.child < 2 ^ 32 → BoundsFit e.bounds → entry_from_bytes (entry_bytes e) ≡ e
  entry_same h f =
      let c = child_of h in
      let b = bounds_same f in
      λ i. record { child = c i; bounds = b i }

  entry_lawful : IsBox e.bounds → BoundsFit e.bounds → is_entry (entry_bytes e) ≡ true
  unfolding is_entry
  entry_lawful k f =
      let v = e.bounds in
      and_both (is_box (bounds_from_bytes (entry_bytes e))) (number_at 4 4 (entry_bytes e) == 0)
      (ap (λ b. is_box b) (bounds_same f)
      ∙ and_both (int_le v.x_min v.x_max && int_le v.y_min v.y_max) (int_le v.t_min v.t_max)
      (and_both (int_le v.x_min v.x_max) (int_le v.y_min v.y_max) (le_to v.x_min v.x_max k.x) (le_to v.y_min v.y_max k.y))
      (le_to v.t_min v.t_max k.t))
      (ap (λ n. n == 0) gap_of)

  pub entry_reads_back : e.child < 2 ^ 32 → BoundsFit e.bounds → IsBox e.bounds → EntryReadsBack e
  entry_reads_back h f k = record { lawful = entry_lawful k f; same = entry_same h f }

-- The legs of a leaf are lawful.
use Rattle.std.proofs.Common.{◌≡◌, ℕ, ℤ, ◌<◌, ◌==◌, Bool, true, false, ◌&&◌, if◌then◌else◌, List, Option, Some, None, refl, sym, ap, ◌∙◌, arith, subst, unsigned_abs, nat_le, is_le, int_cmp}
use Rattle.std.specs.Prelude.{◌<ℤ◌, ◌≤ℤ◌, int_le, int_lt}
use Rattle.std.specs.Option.{is_some}
use Rattle.std.specs.List.{All}
use Rattle.std.proofs.lemmas.Bool.{false≢true, leb-true, eqb-true}
use Rattle.std.proofs.lemmas.Int.{ints}
use Rattle.std.proofs.lemmas.Option.{same_Some}
use Rattle.fixedpoint.specs.Number.{IsInRange, units_within, most}
use Rattle.timebase.specs.Instant.{IsMoment, some_moment, is_moment, least_moment, greatest_moment}
use Rattle.legs.specs.Legs.{LegView, IsLeg}
use Rattle.pages.specs.declared.payload.Payload.{Payload}
use Rattle.tbnode.specs.Nodes.{LeafView, ALeaf, as_leaf}
use Rattle.tbnode.specs.Parts.{number_at, signed_at, slot}
use Rattle.tbnode.specs.Layout.{leg_from_bytes, is_leg, has_moments, has_start, has_end}
use Rattle.tbnode.specs.Form.{leaf_feature, leaf_leg_count, leaf_leg, leaf_from_bytes, is_leg_at, node_of}
use Rattle.tbnode.proofs.ListLemmas.{and_left, and_right, all_below-at, all-made}
use Rattle.tbnode.proofs.FormLemmas.{leaf_form, leg_lawful}
use Rattle.tbnode.proofs.KindLemmas.{HoldsLeaf, a_leaf, held, seen_is}

le_from : (x y : ℤ) → int_le x y ≡ true → x ≤ℤ y
le_from x y h = grind (arith, ints)

lt_from : (x y : ℤ) → int_lt x y ≡ true → x <ℤ y
lt_from x y h = grind (arith, ints)

some_if : (b : Bool) (z : ℤ) → is_some (if b then Some z else None) ≡ true → b ≡ true
some_if true z e = refl
some_if false z e = absurd (false≢true e)

moment_from : (z : ℤ) → is_some (some_moment z) ≡ true → IsMoment z
moment_from z e =
    let h = some_if (is_moment z) z e in
    (le_from least_moment z (and_left (int_le least_moment z) (int_le z greatest_moment) h), le_from z greatest_moment (and_right (int_le least_moment z) (int_le z greatest_moment) h))

coord_from : (z : ℤ) → is_some (units_within z) ≡ true → IsInRange z
coord_from z e = leb-true (unsigned_abs z) most (some_if (nat_le (unsigned_abs z) most) z e)

-- three tests
pub and_three : (a b c : Bool) → (a && b && c) ≡ true → (a ≡ true) × (b ≡ true) × (c ≡ true)
and_three a b c e = (and_left a b (and_left (a && b) c e), and_right a b (and_left (a && b) c e), and_right (a && b) c e)

pub legs_moments : (l : LegView) → has_moments l ≡ true → (int_lt l.t0 l.t1 ≡ true) × (is_some (some_moment l.t0) ≡ true) × (is_some (some_moment l.t1) ≡ true)
unfolding has_moments
legs_moments l e = and_three (int_lt l.t0 l.t1) (is_some (some_moment l.t0)) (is_some (some_moment l.t1)) e

pub legs_start : (l : LegView) → has_start l ≡ true → (is_some (units_within l.x0) ≡ true) × (is_some (units_within l.y0) ≡ true) × (is_some (units_within l.z0) ≡ true)
unfolding has_start
legs_start l e = and_three (is_some (units_within l.x0)) (is_some (units_within l.y0)) (is_some (units_within l.z0)) e

pub legs_end : (l : LegView) → has_end l ≡ true → (is_some (units_within l.x1) ≡ true) × (is_some (units_within l.y1) ≡ true) × (is_some (units_within l.z1) ≡ true)
unfolding has_end
legs_end l e = and_three (is_some (units_within l.x1)) (is_some (units_within l.y1)) (is_some (units_within l.z1)) e

pub is_leg-from : (l : LegView) → has_moments l ≡ true → has_start l ≡ true → has_end l ≡ true → IsLeg l
is_leg-from l moments start end =
    let t = legs_moments l moments in
    let a = legs_start l start in
    let b = legs_end l end in
    record {
      rises = lt_from l.t0 l.t1 t.0;
      t0 = moment_from l.t0 t.1;
      t1 = moment_from l.t1 t.2;
      x0 = coord_from l.x0 a.0;
      y0 = coord_from l.y0 a.1;
      z0 = coord_from l.z0 a.2;
      x1 = coord_from l.x1 b.0;
      y1 = coord_from l.y1 b.1;
      z1 = coord_from l.z1 b.2;
    }

-- a leg is as lawful whatever its feature
with_feature : (f : ℕ) (bytes : List ℕ) → IsLeg (leg_from_bytes 0 bytes) → IsLeg (leg_from_bytes f bytes)
unfolding leg_from_bytes
with_feature f bytes k = record { rises = k.rises; t0 = k.t0; t1 = k.t1; x0 = k.x0; y0 = k.y0; z0 = k.z0; x1 = k.x1; y1 = k.y1; z1 = k.z1 }

leg_tests : (bytes : List ℕ) → is_leg bytes ≡ true → (has_moments (leg_from_bytes 0 bytes) ≡ true) × (has_start (leg_from_bytes 0 bytes) ≡ true) × (has_end (leg_from_bytes 0 bytes) ≡ true)
unfolding is_leg
leg_tests bytes e =
    let l = leg_from_bytes 0 bytes in
    and_three (has_moments l) (has_start l) (has_end l) (and_left (has_moments l && has_start l && has_end l) (number_at 4 76 bytes == 0) e)

leg_is : (f : ℕ) (bytes : List ℕ) → is_leg bytes ≡ true → IsLeg (leg_from_bytes f bytes)
leg_is f bytes e =
    let t = leg_tests bytes e in
    with_feature f bytes (is_leg-from (leg_from_bytes 0 bytes) t.0 t.1 t.2)

-- the last four bytes of a lawful leg are zero
pub last_zero : (bytes : List ℕ) → is_leg bytes ≡ true → number_at 4 76 bytes ≡ 0
unfolding is_leg
last_zero bytes e =
    let l = leg_from_bytes 0 bytes in
    eqb-true (number_at 4 76 bytes) 0 (and_right (has_moments l && has_start l && has_end l) (number_at 4 76 bytes == 0) e)

-- what is no value is none
pub not_some : {T : Type 0} (o : Option T) → ((x : T) → o ≡ Some x → ⊥) → is_some o ≡ true → ⊥
not_some None h e = false≢true e
not_some (Some x) h e = h x refl

-- a moment that is read is the number that was there
pub moment_is : (t z : ℤ) → Some t ≡ some_moment z → t ≡ z
moment_is t z e =
    (elim (is_moment z) as (λ b. Some t ≡ (if b then Some z else None) → t ≡ z) [
      | true ↦ λ h. same_Some t z h
      | false ↦ λ h. absurd (false≢true (sym (ap is_some h)))
    ]) e

later : (a b : ℤ) → is_le (int_cmp b a) ≡ true → a <ℤ b → ⊥
later a b h r = grind (arith, ints)

pub not_after : (a b t u : ℤ) → t ≡ a → u ≡ b → a <ℤ b → is_le (int_cmp u t) ≡ true → ⊥
not_after a b t u e f r h = later a b (subst (λ z. is_le (int_cmp b z) ≡ true) e (subst (λ z. is_le (int_cmp z t) ≡ true) f h)) r

-- the numbers of a lawful leg are in range, and its moments rise
module _ (bytes : List ℕ) (e : is_leg bytes ≡ true) where
  pub rises : signed_at 8 bytes <ℤ signed_at 16 bytes
  unfolding leg_from_bytes
  rises = (leg_is 0 bytes e).rises

  pub t0_some : is_some (some_moment (signed_at 8 bytes)) ≡ true
  unfolding leg_from_bytes
  t0_some = (legs_moments (leg_from_bytes 0 bytes) (leg_tests bytes e).0).1

  pub t1_some : is_some (some_moment (signed_at 16 bytes)) ≡ true
  unfolding leg_from_bytes
  t1_some = (legs_moments (leg_from_bytes 0 bytes) (leg_tests bytes e).0).2

  pub x0_some : is_some (units_within (signed_at 24 bytes)) ≡ true
  unfolding leg_from_bytes
  x0_some = (legs_start (leg_from_bytes 0 bytes) (leg_tests bytes e).1).0

  pub y0_some : is_some (units_within (signed_at 32 bytes)) ≡ true
  unfolding leg_from_bytes
  y0_some = (legs_start (leg_from_bytes 0 bytes) (leg_tests bytes e).1).1

  pub z0_some : is_some (units_within (signed_at 40 bytes)) ≡ true
  unfolding leg_from_bytes
  z0_some = (legs_start (leg_from_bytes 0 bytes) (leg_tests bytes e).1).2

  pub x1_some : is_some (units_within (signed_at 48 bytes)) ≡ true
  unfolding leg_from_bytes
  x1_some = (legs_end (leg_from_bytes 0 bytes) (leg_tests bytes e).2).0

  pub y1_some : is_some (units_within (signed_at 56 bytes)) ≡ true
  unfolding leg_from_bytes
  y1_some = (legs_end (leg_from_bytes 0 bytes) (leg_tests bytes e).2).1

  pub z1_some : is_some (units_within (signed_at 64 bytes)) ≡ true
  unfolding leg_from_bytes
  z1_some = (legs_end (leg_from_bytes 0 bytes) (leg_tests bytes e).2).2

pub ruleset lawful = (rises, t0_some, t1_some, x0_some, y0_some, z0_some, x1_some, y1_some, z1_some)

legs_of_form : (p : Payload) → HoldsLeaf p → All IsLeg (leaf_from_bytes p.bytes).legs
unfolding leaf_from_bytes
legs_of_form p h =
    let f = leaf_form p.bytes h.form in
    let n = leaf_leg_count p.bytes in
    let each : (i : ℕ) → i < n → IsLeg (leaf_leg p.bytes i) =
    λ i l. leg_is (leaf_feature p.bytes) (slot 80 i p.bytes) (leg_lawful p.bytes i (all_below-at (is_leg_at p.bytes) n i f.legs l)) in
    all-made IsLeg (leaf_leg p.bytes) n each

-- the legs of each leaf are lawful
abbrev pub LegsAreLawful : Type 0
LegsAreLawful =
    (payload : Payload) (leaf : LeafView LegView) → node_of payload ≡ Some (ALeaf leaf)
    → All IsLeg leaf.legs

pub legs_are_lawful : LegsAreLawful
legs_are_lawful p l e =
    let h = held a_leaf p (ap (λ o. is_some (as_leaf o)) e) in
    let same : leaf_from_bytes p.bytes ≡ l = same_Some (leaf_from_bytes p.bytes) l (sym (seen_is a_leaf p h) ∙ ap as_leaf e) in
    subst (λ (v : LeafView LegView). All IsLeg v.legs) same (legs_of_form p h)

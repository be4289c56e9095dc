-- What the form of a leaf of version 1 says, and what its legs are.
use Rattle.std.proofs.Common.{◌≡◌, ◌≢◌, ℕ, ◌-◌, ◌<◌, ◌≤◌, ◌==◌, true, false, ◌&&◌, ◌||◌, if◌then◌else◌, List, length, Some, None, slice_get, refl, sym, ap, ◌∙◌, nat_le, nat_lt}
use Rattle.std.specs.Prelude.{◌<ℤ◌}
use Rattle.std.specs.Option.{is_some}
use Rattle.std.proofs.lemmas.Bool.{leb-true, eqb-true}
use Rattle.fixedpoint.specs.Number.{units_within}
use Rattle.timebase.specs.Instant.{some_moment}
use Rattle.legs.specs.Legs.{LegView, IsLeg}
use Rattle.legs.specs.Boxes.{BoxView}
use Rattle.pages.specs.declared.payload.Kind.{Kind}
use Rattle.pages.specs.declared.payload.Kind.TheVariants.{Header, Leaf, Inner, Catalogue}
use Rattle.pages.specs.declared.payload.Payload.{Payload}
use Rattle.tbnode.specs.Nodes.{LeafView, Node, ALeaf, AnInner, as_leaf}
use Rattle.tbnode.specs.Parts.{number_at, signed_at, slot, all_below}
use Rattle.tbnode.specs.Layout.{has_moments, has_start, has_end}
use Rattle.tbnode.specs.Form.{leaf_leg_count, inner_of, is_inner}
use Rattle.version1.specs.OldForm.{old_leg_of, is_old_leg, old_leg_at, old_leaf_of, is_old_leg_at, is_old_leaf, old_node_by, old_node_of}
use Rattle.tbnode.proofs.ListLemmas.{and_left, and_right, all_below-at, length-made, get-made}
use Rattle.tbnode.proofs.LawLemmas.{and_three, legs_moments, legs_start, legs_end, is_leg-from}

-- a leg

leg_tests : (bytes : List ℕ) → is_old_leg bytes ≡ true → (has_moments (old_leg_of 0 bytes) ≡ true) × (has_start (old_leg_of 0 bytes) ≡ true) × (has_end (old_leg_of 0 bytes) ≡ true)
unfolding is_old_leg
leg_tests bytes e =
    let l = old_leg_of 0 bytes in
    and_three (has_moments l) (has_start l) (has_end l) (and_left (has_moments l && has_start l && has_end l) (number_at 4 60 bytes == 0) e)

-- a leg is as lawful whatever its feature
with_feature : (f : ℕ) (bytes : List ℕ) → IsLeg (old_leg_of 0 bytes) → IsLeg (old_leg_of f bytes)
unfolding old_leg_of
with_feature f bytes k = record { rises = k.rises; t0 = k.t0; t1 = k.t1; x0 = k.x0; y0 = k.y0; z0 = k.z0; x1 = k.x1; y1 = k.y1; z1 = k.z1 }

leg_is : (f : ℕ) (bytes : List ℕ) → is_old_leg bytes ≡ true → IsLeg (old_leg_of f bytes)
leg_is f bytes e =
    let t = leg_tests bytes e in
    with_feature f bytes (is_leg-from (old_leg_of 0 bytes) t.0 t.1 t.2)

-- the numbers of a lawful leg are in range, and its moments rise
module _ (bytes : List ℕ) (e : is_old_leg bytes ≡ true) where
  pub rises : signed_at 8 bytes <ℤ signed_at 16 bytes
  unfolding old_leg_of
  rises = (leg_is 0 bytes e).rises

  pub t0_some : is_some (some_moment (signed_at 8 bytes)) ≡ true
  unfolding old_leg_of
  t0_some = (legs_moments (old_leg_of 0 bytes) (leg_tests bytes e).0).1

  pub t1_some : is_some (some_moment (signed_at 16 bytes)) ≡ true
  unfolding old_leg_of
  t1_some = (legs_moments (old_leg_of 0 bytes) (leg_tests bytes e).0).2

  pub x0_some : is_some (units_within (signed_at 24 bytes)) ≡ true
  unfolding old_leg_of
  x0_some = (legs_start (old_leg_of 0 bytes) (leg_tests bytes e).1).0

  pub y0_some : is_some (units_within (signed_at 32 bytes)) ≡ true
  unfolding old_leg_of
  y0_some = (legs_start (old_leg_of 0 bytes) (leg_tests bytes e).1).1

  pub x1_some : is_some (units_within (signed_at 40 bytes)) ≡ true
  unfolding old_leg_of
  x1_some = (legs_end (old_leg_of 0 bytes) (leg_tests bytes e).2).0

  pub y1_some : is_some (units_within (signed_at 48 bytes)) ≡ true
  unfolding old_leg_of
  y1_some = (legs_end (old_leg_of 0 bytes) (leg_tests bytes e).2).1

pub ruleset laws = (rises, t0_some, t1_some, x0_some, y0_some, x1_some, y1_some)

-- the form

pub record OldLeafForm (bytes : List ℕ) : Type 0 where
  pub some : 1 ≤ leaf_leg_count bytes
  pub room : leaf_leg_count bytes ≤ 63
  pub zero : number_at 2 14 bytes ≡ 0
  pub legs : all_below (is_old_leg_at bytes) (leaf_leg_count bytes) ≡ true

pub old_leaf_form : (bytes : List ℕ) → is_old_leaf bytes ≡ true → OldLeafForm bytes
unfolding is_old_leaf
old_leaf_form bytes e =
    let n = leaf_leg_count bytes in
    let a = nat_le 1 n in
    let b = nat_le n 63 in
    let z = number_at 2 14 bytes == 0 in
    let l = all_below (is_old_leg_at bytes) n in
    let abz = and_left ((a && b) && z) l e in
    let ab = and_left (a && b) z abz in
    record {
      some = leb-true 1 n (and_left a b ab);
      room = leb-true n 63 (and_right a b ab);
      zero = eqb-true (number_at 2 14 bytes) 0 (and_right (a && b) z abz);
      legs = and_right ((a && b) && z) l e;
    }

leg_passes : (bytes : List ℕ) (i : ℕ) → is_old_leg_at bytes i ≡ true → is_old_leg (slot 64 i bytes) ≡ true
unfolding is_old_leg_at
leg_passes bytes i e = and_left (is_old_leg (slot 64 i bytes)) ((i == 0) || nat_lt (old_leg_at bytes (i - 1)).ordinal (old_leg_at bytes i).ordinal) e

pub old_leg_lawful : (bytes : List ℕ) (i : ℕ) → is_old_leaf bytes ≡ true → i < leaf_leg_count bytes → is_old_leg (slot 64 i bytes) ≡ true
old_leg_lawful bytes i e h =
    let f = old_leaf_form bytes e in
    leg_passes bytes i (all_below-at (is_old_leg_at bytes) (leaf_leg_count bytes) i f.legs h)

length-legs : (bytes : List ℕ) → length (old_leaf_of bytes).legs ≡ leaf_leg_count bytes
unfolding old_leaf_of
length-legs bytes = length-made (old_leg_at bytes) (leaf_leg_count bytes)

pub old_legs_counted : (bytes : List ℕ) (v : LeafView LegView) → old_leaf_of bytes ≡ v → length v.legs ≡ leaf_leg_count bytes
old_legs_counted bytes v e = ap (λ w. length w.legs) (sym e) ∙ length-legs bytes

pub old_leg_shown : (bytes : List ℕ) (v : LeafView LegView) (i : ℕ) (l : LegView) → old_leaf_of bytes ≡ v → i < length v.legs → l ≡ old_leg_at bytes i → slice_get v.legs i ≡ Some l
unfolding old_leaf_of
old_leg_shown bytes v i l e h is = get-made (old_leg_at bytes) (leaf_leg_count bytes) i l v.legs (ap (λ w. w.legs) e) h is

-- the node

pub old_leaf-some : (p : Payload) (v : LeafView LegView) → p.kind ≡ Leaf → is_old_leaf p.bytes ≡ true → v ≡ old_leaf_of p.bytes → Some v ≡ as_leaf (old_node_of p)
unfolding old_node_of
old_leaf-some p v k e is =
    let n : Node LegView BoxView = ALeaf (old_leaf_of p.bytes) in
    ap Some is ∙ sym (ap (λ j. as_leaf (old_node_by j p.bytes)) k ∙ ap (λ b. as_leaf (if b then Some n else None)) e)

pub old_leaf-none : (p : Payload) → p.kind ≡ Leaf → is_old_leaf p.bytes ≡ false → None ≡ as_leaf (old_node_of p)
unfolding old_node_of
old_leaf-none p k e =
    let n : Node LegView BoxView = ALeaf (old_leaf_of p.bytes) in
    sym (ap (λ j. as_leaf (old_node_by j p.bytes)) k ∙ ap (λ b. as_leaf (if b then Some n else None)) e)

no_leaf_by : (k : Kind) (bytes : List ℕ) → k ≢ Leaf → None ≡ as_leaf (old_node_by k bytes)
no_leaf_by Header bytes h = refl
no_leaf_by Leaf bytes h = absurd (h refl)
no_leaf_by Inner bytes h =
    let n : Node LegView BoxView = AnInner (inner_of bytes) in
    elim (is_inner bytes) as (λ b. None ≡ as_leaf (if b then Some n else None)) [ true ↦ refl | false ↦ refl ]
no_leaf_by Catalogue bytes h = refl

pub old_leaf-other : (p : Payload) → p.kind ≢ Leaf → None ≡ as_leaf (old_node_of p)
unfolding old_node_of
old_leaf-other p h = no_leaf_by p.kind p.bytes h

-- What a payload says that is read as a leaf without the test of its form.
use Rattle.std.proofs.Common.{◌≡◌, ℕ, ◌<◌, ◌≤◌, Bool, true, false, List, length, Option, Some, slice_get, refl, sym, ap, ◌∙◌, arith, nat_le, nat_lt}
use Rattle.std.specs.Option.{is_some, option_map_or}
use Rattle.std.proofs.lemmas.Bool.{leb-true, le-leb}
use Rattle.std.proofs.lemmas.Bool.Decides.{nat_tests}
use Rattle.std.proofs.lemmas.Option.{same_Some, slice_get_past}
use Rattle.legs.specs.Legs.{LegView}
use Rattle.pages.specs.declared.payload.Payload.{Payload}
use Rattle.tbnode.specs.Nodes.{LeafView, ALeaf, as_leaf}
use Rattle.tbnode.specs.Parts.{slot}
use Rattle.tbnode.specs.Layout.{leg_from_bytes, is_leg}
use Rattle.tbnode.specs.Form.{leaf_feature, leaf_leg_count, leaf_leg, leaf_from_bytes, is_leg_at, is_counted, node_of}
use Rattle.tbnode.proofs.ListLemmas.{and_left, and_right, and_both, all_below-at}
use Rattle.tbnode.proofs.FormLemmas.{leaf_form, leg_lawful, leg_shown, legs_counted}
use Rattle.tbnode.proofs.KindLemmas.{HoldsLeaf, a_leaf, held, seen_is}

pub record IsCounted (bytes : List ℕ) : Type 0 where
  pub some : 1 ≤ leaf_leg_count bytes
  pub room : leaf_leg_count bytes ≤ 50

pub counted : (bytes : List ℕ) → is_counted bytes ≡ true → IsCounted bytes
unfolding is_counted
counted bytes e =
    let n = leaf_leg_count bytes in
    record { some = leb-true 1 n (and_left (nat_le 1 n) (nat_le n 50) e); room = leb-true n 50 (and_right (nat_le 1 n) (nat_le n 50) e) }

-- a leaf counts its legs
pub leaf_counted : (p : Payload) → HoldsLeaf p → is_counted p.bytes ≡ true
unfolding is_counted
leaf_counted p h =
    let f = leaf_form p.bytes h.form in
    let n = leaf_leg_count p.bytes in
    and_both (nat_le 1 n) (nat_le n 50) (le-leb 1 n f.some) (le-leb n 50 f.room)

-- the payload has the form of a leaf, and its bytes say that one
pub record Says (p : Payload) (l : LeafView LegView) : Type 0 where
  pub held : HoldsLeaf p
  pub is : leaf_from_bytes p.bytes ≡ l

pub says : (p : Payload) (l : LeafView LegView) → node_of p ≡ Some (ALeaf l) → Says p l
says p l e =
    let h = held a_leaf p (ap (λ o. is_some (as_leaf o)) e) in
    record { held = h; is = same_Some (leaf_from_bytes p.bytes) l (sym (seen_is a_leaf p h) ∙ ap as_leaf e) }

-- the bytes of a leg of it are lawful, and say that leg
pub leg_said : (p : Payload) (l : LeafView LegView) (i : ℕ) → Says p l → i < leaf_leg_count p.bytes → slice_get l.legs i ≡ Some (leaf_leg p.bytes i)
leg_said p l i s h =
    let n = legs_counted p.bytes l s.is in
    leg_shown p.bytes l i (leaf_leg p.bytes i) s.is (omega (arith, n, h)) refl

pub lawful_said : (p : Payload) (l : LeafView LegView) (i : ℕ) → Says p l → i < leaf_leg_count p.bytes → is_leg (slot 80 i p.bytes) ≡ true
lawful_said p l i s h =
    let f = leaf_form p.bytes s.held.form in
    leg_lawful p.bytes i (all_below-at (is_leg_at p.bytes) (leaf_leg_count p.bytes) i f.legs h)

-- a leg that is decoded from such bytes is the leaf's
pub leg_there : (p : Payload) (l : LeafView LegView) (i feature : ℕ) (bytes : List ℕ) (r : Option LegView) → Says p l → i < length l.legs → bytes ≡ slot 80 i p.bytes → feature ≡ leaf_feature p.bytes
    → (is_leg bytes ≡ true → r ≡ Some (leg_from_bytes feature bytes)) → r ≡ slice_get l.legs i
leg_there p l i feature bytes r s h b f said =
    let n = legs_counted p.bytes l s.is in
    let within : i < leaf_leg_count p.bytes = omega (arith, n, h) in
    said (ap is_leg b ∙ lawful_said p l i s within) ∙ ap (λ n. Some (leg_from_bytes n bytes)) f ∙ ap (λ xs. Some (leg_from_bytes (leaf_feature p.bytes) xs)) b ∙ sym (leg_said p l i s within)

-- and so is what a test of it says
pub told_there : (p : Payload) (l : LeafView LegView) (i : ℕ) (bytes : List ℕ) (test : LegView → Bool) (r : Bool) → Says p l → i < length l.legs → bytes ≡ slot 80 i p.bytes
    → ((feature : ℕ) → r ≡ test (leg_from_bytes feature bytes)) → r ≡ option_map_or test (slice_get l.legs i) false
told_there p l i bytes test r s h b is =
    let n = legs_counted p.bytes l s.is in
    let within : i < leaf_leg_count p.bytes = omega (arith, n, h) in
    is (leaf_feature p.bytes) ∙ ap (λ xs. test (leg_from_bytes (leaf_feature p.bytes) xs)) b ∙ ap (λ o. option_map_or test o false) (sym (leg_said p l i s within))

past : (i n : ℕ) → n ≤ i → nat_lt i n ≡ false
past i n h = grind (arith, nat_tests)

pub none_told : (l : LeafView LegView) (i n : ℕ) (test : LegView → Bool) → n ≡ length l.legs → n ≤ i → nat_lt i n ≡ option_map_or test (slice_get l.legs i) false
none_told l i n test e h = past i n h ∙ ap (λ o. option_map_or test o false) (sym (slice_get_past l.legs i (omega (arith, e, h))))

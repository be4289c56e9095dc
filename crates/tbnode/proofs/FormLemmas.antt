-- What the form of a leaf and of an inner page says.
use Rattle.std.proofs.Common.{◌≡◌, ℕ, ◌-◌, ◌<◌, ◌≤◌, ◌==◌, true, ◌&&◌, ◌||◌, List, length, Some, slice_get, sym, ap, ◌∙◌, arith, nat_le, nat_lt}
use Rattle.std.proofs.lemmas.Bool.{leb-true, eqb-true, le-leb, eq-eqb}
use Rattle.legs.specs.Legs.{LegView}
use Rattle.legs.specs.Boxes.{BoxView}
use Rattle.tbnode.specs.Nodes.{LeafView, EntryView, InnerView}
use Rattle.tbnode.specs.Parts.{number_at, slot, all_below}
use Rattle.tbnode.specs.Layout.{is_leg}
use Rattle.tbnode.specs.Form.{leaf_leg_count, leaf_leg, leaf_from_bytes, is_leg_at, is_leaf, level_of, entry_count, entry_at, inner_of, is_entry_at, is_inner}
use Rattle.tbnode.proofs.ListLemmas.{and_left, and_right, and_both, length-made, get-made}

pub record LeafForm (bytes : List ℕ) : Type 0 where
  pub some : 1 ≤ leaf_leg_count bytes
  pub room : leaf_leg_count bytes ≤ 50
  pub zero : number_at 2 14 bytes ≡ 0
  pub legs : all_below (is_leg_at bytes) (leaf_leg_count bytes) ≡ true

pub leaf_form : (bytes : List ℕ) → is_leaf bytes ≡ true → LeafForm bytes
unfolding is_leaf
leaf_form bytes e =
    let n = leaf_leg_count bytes in
    let a = nat_le 1 n in
    let b = nat_le n 50 in
    let z = number_at 2 14 bytes == 0 in
    let l = all_below (is_leg_at bytes) n in
    let abz = and_left ((a && b) && z) l e in
    let ab = and_left (a && b) z abz in
    record {
      some = leb-true 1 n (and_left a b ab);
      room = leb-true n 50 (and_right a b ab);
      zero = eqb-true (number_at 2 14 bytes) 0 (and_right (a && b) z abz);
      legs = and_right ((a && b) && z) l e;
    }

pub is_leaf-form : (bytes : List ℕ) → LeafForm bytes → is_leaf bytes ≡ true
unfolding is_leaf
is_leaf-form bytes f =
    let n = leaf_leg_count bytes in
    and_both _ _
    (and_both _ _ (and_both _ _ (le-leb 1 n f.some) (le-leb n 50 f.room)) (eq-eqb (number_at 2 14 bytes) 0 f.zero))
    f.legs

pub record InnerForm (bytes : List ℕ) : Type 0 where
  pub above : 1 ≤ level_of bytes
  pub some : 1 ≤ entry_count bytes
  pub room : entry_count bytes ≤ 72
  pub zeros : number_at 8 4 bytes ≡ 0
  pub zero : number_at 4 12 bytes ≡ 0
  pub entries : all_below (is_entry_at bytes) (entry_count bytes) ≡ true

pub inner_form : (bytes : List ℕ) → is_inner bytes ≡ true → InnerForm bytes
unfolding is_inner
inner_form bytes e =
    let n = entry_count bytes in
    let v = nat_le 1 (level_of bytes) in
    let a = nat_le 1 n in
    let b = nat_le n 72 in
    let y = number_at 8 4 bytes == 0 in
    let z = number_at 4 12 bytes == 0 in
    let l = all_below (is_entry_at bytes) n in
    let vabz = and_left (((v && a) && b) && (y && z)) l e in
    let vab = and_left ((v && a) && b) (y && z) vabz in
    let yz = and_right ((v && a) && b) (y && z) vabz in
    let va = and_left (v && a) b vab in
    record {
      above = leb-true 1 (level_of bytes) (and_left v a va);
      some = leb-true 1 n (and_right v a va);
      room = leb-true n 72 (and_right (v && a) b vab);
      zeros = eqb-true (number_at 8 4 bytes) 0 (and_left y z yz);
      zero = eqb-true (number_at 4 12 bytes) 0 (and_right y z yz);
      entries = and_right (((v && a) && b) && (y && z)) l e;
    }

pub is_inner-form : (bytes : List ℕ) → InnerForm bytes → is_inner bytes ≡ true
unfolding is_inner
is_inner-form bytes f =
    let n = entry_count bytes in
    and_both _ _
    (and_both _ _
    (and_both _ _ (and_both _ _ (le-leb 1 (level_of bytes) f.above) (le-leb 1 n f.some)) (le-leb n 72 f.room))
    (and_both _ _ (eq-eqb (number_at 8 4 bytes) 0 f.zeros) (eq-eqb (number_at 4 12 bytes) 0 f.zero)))
    f.entries

pub leg_lawful : (bytes : List ℕ) (i : ℕ) → is_leg_at bytes i ≡ true → is_leg (slot 80 i bytes) ≡ true
unfolding is_leg_at
leg_lawful bytes i e = and_left (is_leg (slot 80 i bytes)) ((i == 0) || nat_lt (leaf_leg bytes (i - 1)).ordinal (leaf_leg bytes i).ordinal) e

pub length-legs : (bytes : List ℕ) → length (leaf_from_bytes bytes).legs ≡ leaf_leg_count bytes
unfolding leaf_from_bytes
length-legs bytes = length-made (leaf_leg bytes) (leaf_leg_count bytes)

pub length-entries : (bytes : List ℕ) → length (inner_of bytes).entries ≡ entry_count bytes
unfolding inner_of
length-entries bytes = length-made (entry_at bytes) (entry_count bytes)

pub legs_counted : (bytes : List ℕ) (v : LeafView LegView) → leaf_from_bytes bytes ≡ v → length v.legs ≡ leaf_leg_count bytes
legs_counted bytes v e = ap (λ w. length w.legs) (sym e) ∙ length-legs bytes

pub entries_counted : (bytes : List ℕ) (v : InnerView BoxView) → inner_of bytes ≡ v → length v.entries ≡ entry_count bytes
entries_counted bytes v e = ap (λ w. length w.entries) (sym e) ∙ length-entries bytes

-- a count that a head tells is the number of what is counted, from 1 to as many as a page has room for
pub told_count : {r n len most : ℕ} → r ≡ n → len ≡ n → 1 ≤ n → n ≤ most → record { value : r ≡ len; least : 1 ≤ r; most : r ≤ most }
told_count told counted some room = record { value = told ∙ sym counted; least = omega (arith, told, some); most = omega (arith, told, room) }

-- a leg that is there is one of the legs that the head counts, of which there are at most 50
pub leg_within : (bytes : List ℕ) (v : LeafView LegView) (i : ℕ) → is_leaf bytes ≡ true → leaf_from_bytes bytes ≡ v → i < length v.legs → (i < leaf_leg_count bytes) × (i < 50)
leg_within bytes v i form is h =
    let count = legs_counted bytes v is in
    (omega (arith, count, h), omega (arith, count, h, (leaf_form bytes form).room))

-- an entry that is there is one of the entries that the head counts, of which there are at most 72
pub entry_within : (bytes : List ℕ) (v : InnerView BoxView) (i : ℕ) → is_inner bytes ≡ true → inner_of bytes ≡ v → i < length v.entries → (i < entry_count bytes) × (i < 72)
entry_within bytes v i form is h =
    let count = entries_counted bytes v is in
    (omega (arith, count, h), omega (arith, count, h, (inner_form bytes form).room))

pub leg_shown : (bytes : List ℕ) (v : LeafView LegView) (i : ℕ) (l : LegView) → leaf_from_bytes bytes ≡ v → i < length v.legs → l ≡ leaf_leg bytes i → slice_get v.legs i ≡ Some l
unfolding leaf_from_bytes
leg_shown bytes v i l e h is = get-made (leaf_leg bytes) (leaf_leg_count bytes) i l v.legs (ap (λ w. w.legs) e) h is

pub entry_shown : (bytes : List ℕ) (v : InnerView BoxView) (i : ℕ) (x : EntryView BoxView) → inner_of bytes ≡ v → i < length v.entries → x ≡ entry_at bytes i → slice_get v.entries i ≡ Some x
unfolding inner_of
entry_shown bytes v i x e h is = get-made (entry_at bytes) (entry_count bytes) i x v.entries (ap (λ w. w.entries) e) h is

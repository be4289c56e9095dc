-- A leaf after a change.
use Rattle.std.proofs.Common.{◌≡◌, ℕ, ◌+◌, ◌-◌, ◌*◌, ◌^◌, ◌<◌, ◌≤◌, ◌==◌, ◌||◌, ◌&&◌, true, nat_lt, List, [], ◌∷◌, ◌++◌, length, Some, refl, sym, ap, ◌∙◌, arith, inl, inr, ◌⊎◌, replicate}
use Rattle.std.proofs.lemmas.List.{length-replicate}
use Rattle.std.specs.Option.{is_some, ForSome}
use Rattle.std.specs.Prelude.{option_map}
use Rattle.std.proofs.lemmas.Bool.{lt-ltb}
use Rattle.byteorder.specs.Endian.{big_bytes, big_number}
use Rattle.legs.specs.Legs.{LegView}
use Rattle.legs.specs.Boxes.{BoxView}
use Rattle.pages.specs.declared.payload.Kind.TheVariants.{Leaf}
use Rattle.pages.specs.declared.payload.Payload.{Payload}
use Rattle.tbnode.specs.Nodes.{Node, ALeaf, as_leaf, with_leg, with_next}
use Rattle.tbnode.specs.Parts.{put, number_at, slot, all_below}
use Rattle.tbnode.specs.Layout.{leg_bytes, leg_from_bytes, is_leg}
use Rattle.tbnode.specs.Form.{leaf_feature, leaf_leg_count, leaf_leg, leaf_from_bytes, is_leg_at, is_leaf, node_of}
use Rattle.tbnode.specs.Edits.{TakesLeg, new_leaf, leaf_with_leg, leaf_with_next}
use Rattle.tbnode.specs.Steps.{LegReadsBack, pushed}
use Rattle.tbnode.proofs.ListLemmas.{and_both, all_below-same, all_below-more, or_else, made, made-same, made-more}
use Rattle.tbnode.proofs.LegLemmas.{length-leg_bytes}
use Rattle.tbnode.proofs.FormLemmas.{leaf_form, is_leaf-form, length-legs, leg_shown}
use Rattle.tbnode.proofs.KindLemmas.{HoldsLeaf, a_leaf, changed, held, node_is, seen_is}
use Rattle.tbnode.proofs.SlotLemmas.{number-set, number-unset, slot-unset, count-pushed, head-pushed, slot-pushed, slot-last, zeros-part, length-set}

leg_at-same : (old new : List ℕ) (i : ℕ) → leaf_feature new ≡ leaf_feature old → slot 80 i new ≡ slot 80 i old → leaf_leg new i ≡ leaf_leg old i
leg_at-same old new i f s = λ j. leg_from_bytes (f j) (s j)

is_leg_at-same : (old new : List ℕ) (i : ℕ) → slot 80 i new ≡ slot 80 i old → leaf_leg new (i - 1) ≡ leaf_leg old (i - 1) → leaf_leg new i ≡ leaf_leg old i → is_leg_at new i ≡ is_leg_at old i
unfolding is_leg_at
is_leg_at-same old new i s a b = λ j. is_leg (s j) && ((i == 0) || nat_lt (a j).ordinal (b j).ordinal)

-- a leg more
module _ (bytes : List ℕ) (l : LegView) (len : 4056 ≤ length bytes) (small : leaf_leg_count bytes < 50) (back : LegReadsBack l) (feature : l.feature ≡ leaf_feature bytes) where
  fits : 16 + 80 * leaf_leg_count bytes + 80 ≤ length bytes
  fits = omega (arith, len, small)

  feature_kept : leaf_feature (pushed 80 12 (leg_bytes l) bytes) ≡ leaf_feature bytes
  feature_kept = head-pushed bytes 80 12 (leg_bytes l) (length-leg_bytes l) (omega arith) fits 4 0 (omega arith) (inl (omega arith))

  counted : leaf_leg_count (pushed 80 12 (leg_bytes l) bytes) ≡ leaf_leg_count bytes + 1
  counted = count-pushed bytes 80 12 (leg_bytes l) (length-leg_bytes l) (omega arith) fits (omega (arith, small))

  slot_kept : (i : ℕ) → i < leaf_leg_count bytes → slot 80 i (pushed 80 12 (leg_bytes l) bytes) ≡ slot 80 i bytes
  slot_kept i h = slot-pushed bytes 80 12 (leg_bytes l) (length-leg_bytes l) (omega arith) fits i h

  slot_new : slot 80 (leaf_leg_count bytes) (pushed 80 12 (leg_bytes l) bytes) ≡ leg_bytes l
  slot_new = slot-last bytes 80 12 (leg_bytes l) (length-leg_bytes l) (omega arith) fits

  leg_kept : (i : ℕ) → i < leaf_leg_count bytes → leaf_leg (pushed 80 12 (leg_bytes l) bytes) i ≡ leaf_leg bytes i
  leg_kept i h = leg_at-same bytes (pushed 80 12 (leg_bytes l) bytes) i feature_kept (slot_kept i h)

  leg_new : leaf_leg (pushed 80 12 (leg_bytes l) bytes) (leaf_leg_count bytes) ≡ l
  leg_new =
      let f : leaf_feature (pushed 80 12 (leg_bytes l) bytes) ≡ l.feature = feature_kept ∙ sym feature in
      (λ j. leg_from_bytes (f j) (slot_new j)) ∙ back.same

  pub legs_pushed : leaf_from_bytes (pushed 80 12 (leg_bytes l) bytes) ≡ with_leg l (leaf_from_bytes bytes)
  unfolding leaf_from_bytes
  legs_pushed =
      let new = pushed 80 12 (leg_bytes l) bytes in
      let n = leaf_leg_count bytes in
      let previous = head-pushed bytes 80 12 (leg_bytes l) (length-leg_bytes l) (omega arith) fits 4 4 (omega arith) (inl (omega arith)) in
      let next = head-pushed bytes 80 12 (leg_bytes l) (length-leg_bytes l) (omega arith) fits 4 8 (omega arith) (inl (omega arith)) in
      let legs : made (leaf_leg new) (leaf_leg_count new) ≡ made (leaf_leg bytes) n ++ l ∷ [] =
      ap (made (leaf_leg new)) counted ∙ made-more (leaf_leg new) n
      ∙ ap (λ x. made (leaf_leg new) n ++ x ∷ []) leg_new
      ∙ ap (λ xs. xs ++ l ∷ []) (made-same (leaf_leg new) (leaf_leg bytes) n leg_kept) in
      λ i. record { feature = feature_kept i; previous = previous i; next = next i; legs = legs i }

  module _ (zero : number_at 2 14 bytes ≡ 0) (legs : all_below (is_leg_at bytes) (leaf_leg_count bytes) ≡ true) (up : 0 < leaf_leg_count bytes → (leaf_leg bytes (leaf_leg_count bytes - 1)).ordinal < l.ordinal) where
    kept_lawful : (i : ℕ) → i < leaf_leg_count bytes → is_leg_at (pushed 80 12 (leg_bytes l) bytes) i ≡ is_leg_at bytes i
    kept_lawful i h = is_leg_at-same bytes (pushed 80 12 (leg_bytes l) bytes) i (slot_kept i h) (leg_kept (i - 1) (omega (arith, h))) (leg_kept i h)

    new_lawful : is_leg_at (pushed 80 12 (leg_bytes l) bytes) (leaf_leg_count bytes) ≡ true
    unfolding is_leg_at
    new_lawful =
        let new = pushed 80 12 (leg_bytes l) bytes in
        let n = leaf_leg_count bytes in
        and_both (is_leg (slot 80 n new)) ((n == 0) || nat_lt (leaf_leg new (n - 1)).ordinal (leaf_leg new n).ordinal)
        (ap is_leg slot_new ∙ back.lawful)
        (or_else n (nat_lt (leaf_leg new (n - 1)).ordinal (leaf_leg new n).ordinal)
        (λ z.
        let a = ap (λ x. x.ordinal) (leg_kept (n - 1) (omega (arith, z))) in
        let b = ap (λ x. x.ordinal) leg_new in
        lt-ltb (leaf_leg new (n - 1)).ordinal (leaf_leg new n).ordinal (omega (arith, a, b, up z))))

    pub form_pushed : is_leaf (pushed 80 12 (leg_bytes l) bytes) ≡ true
    form_pushed =
        let new = pushed 80 12 (leg_bytes l) bytes in
        let n = leaf_leg_count bytes in
        is_leaf-form new (record {
          some = omega (arith, counted);
          room = omega (arith, counted, small);
          zero = head-pushed bytes 80 12 (leg_bytes l) (length-leg_bytes l) (omega arith) fits 2 14 (omega arith) (inr (omega arith)) ∙ zero;
          legs =
              ap (all_below (is_leg_at new)) counted ∙ all_below-more (is_leg_at new) n
              ∙ and_both (all_below (is_leg_at new) n) (is_leg_at new n)
              (all_below-same (is_leg_at new) (is_leg_at bytes) n kept_lawful ∙ legs) new_lawful;
        })

-- a payload that says a leaf which takes a leg
pub record IsTaken (p : Payload) (l : LegView) : Type 0 where
  pub held : HoldsLeaf p
  pub takes : TakesLeg (leaf_from_bytes p.bytes) l
  pub small : leaf_leg_count p.bytes < 50

pub is_taken : (p : Payload) (l : LegView) → is_some (as_leaf (node_of p)) ≡ true → ForSome (as_leaf (node_of p)) (λ leaf. TakesLeg leaf l) → IsTaken p l
is_taken p l some takes =
    let h = held a_leaf p some in
    let t = takes (leaf_from_bytes p.bytes) (seen_is a_leaf p h) in
    record { held = h; takes = t; small = omega (arith, t.room, length-legs p.bytes) }

pub leg_pushed : (p : Payload) (l : LegView) (new : List ℕ) → new ≡ pushed 80 12 (leg_bytes l) p.bytes → 4056 ≤ length p.bytes → HoldsLeaf p → LegReadsBack l → TakesLeg (leaf_from_bytes p.bytes) l
    → node_of (record p { bytes = new }) ≡ option_map (leaf_with_leg l) (as_leaf (node_of p))
unfolding leaf_from_bytes
leg_pushed p l new e len h back takes =
    let bytes = p.bytes in
    let n = leaf_leg_count bytes in
    let f = leaf_form bytes h.form in
    let count : length (leaf_from_bytes bytes).legs ≡ n = length-legs bytes in
    let small : n < 50 = omega (arith, takes.room, count) in
    let up : 0 < n → (leaf_leg bytes (n - 1)).ordinal < l.ordinal =
    λ z.
    let j = length (leaf_from_bytes bytes).legs - 1 in
    let is : n - 1 ≡ j = omega (arith, count) in
    takes.above (leaf_leg bytes (n - 1)) (leg_shown bytes (leaf_from_bytes bytes) j (leaf_leg bytes (n - 1)) refl (omega (arith, count, z)) (ap (leaf_leg bytes) is)) in
    let form : is_leaf new ≡ true = ap is_leaf e ∙ form_pushed bytes l len small back takes.feature f.zero f.legs up in
    let legs : leaf_from_bytes new ≡ with_leg l (leaf_from_bytes bytes) = ap leaf_from_bytes e ∙ legs_pushed bytes l len small back takes.feature in
    changed a_leaf (leaf_with_leg l) p new h form (ap (λ v. let x : Node LegView BoxView = ALeaf v in x) legs)

-- another next leaf
abbrev pub linked : ℕ → List ℕ → List ℕ
linked next bytes = put 8 (big_bytes 4 next) bytes

module _ (bytes : List ℕ) (next : ℕ) (room : 16 ≤ length bytes) where
  head_linked : (k a : ℕ) → (a + k ≤ 8) ⊎ (12 ≤ a) → number_at k a (linked next bytes) ≡ number_at k a bytes
  head_linked k a h = number-unset bytes 4 8 next (omega arith) room k a h

  leg_linked : (i : ℕ) → leaf_leg (linked next bytes) i ≡ leaf_leg bytes i
  leg_linked i = leg_at-same bytes (linked next bytes) i (head_linked 4 0 (inl (omega arith))) (slot-unset bytes 4 8 next (omega arith) room 80 i)

  lawful_linked : (i : ℕ) → is_leg_at (linked next bytes) i ≡ is_leg_at bytes i
  lawful_linked i = is_leg_at-same bytes (linked next bytes) i (slot-unset bytes 4 8 next (omega arith) room 80 i) (leg_linked (i - 1)) (leg_linked i)

  pub legs_linked : next < 2 ^ 32 → leaf_from_bytes (linked next bytes) ≡ with_next next (leaf_from_bytes bytes)
  unfolding leaf_from_bytes
  legs_linked h =
      let new = linked next bytes in
      let n = leaf_leg_count bytes in
      let feature = head_linked 4 0 (inl (omega arith)) in
      let previous = head_linked 4 4 (inl (omega arith)) in
      let set = number-set bytes 4 8 next (omega arith) room (omega (arith, h)) in
      let legs : made (leaf_leg new) (leaf_leg_count new) ≡ made (leaf_leg bytes) n =
      ap (made (leaf_leg new)) (head_linked 2 12 (inr (omega arith))) ∙ made-same (leaf_leg new) (leaf_leg bytes) n (λ i _. leg_linked i) in
      λ i. record { feature = feature i; previous = previous i; next = set i; legs = legs i }

  pub form_linked : is_leaf bytes ≡ true → is_leaf (linked next bytes) ≡ true
  form_linked e =
      let new = linked next bytes in
      let n = leaf_leg_count bytes in
      let f = leaf_form bytes e in
      let count = head_linked 2 12 (inr (omega arith)) in
      is_leaf-form new (record {
        some = omega (arith, count, f.some);
        room = omega (arith, count, f.room);
        zero = head_linked 2 14 (inr (omega arith)) ∙ f.zero;
        legs =
            ap (all_below (is_leg_at new)) count
            ∙ all_below-same (is_leg_at new) (is_leg_at bytes) n (λ i _. lawful_linked i) ∙ f.legs;
      })

pub next_set : (p : Payload) (next : ℕ) (new : List ℕ) → new ≡ linked next p.bytes → 16 ≤ length p.bytes → next < 2 ^ 32 → HoldsLeaf p
    → node_of (record p { bytes = new }) ≡ option_map (leaf_with_next next) (as_leaf (node_of p))
next_set p next new e room small h =
    let form : is_leaf new ≡ true = ap is_leaf e ∙ form_linked p.bytes next room h.form in
    let legs : leaf_from_bytes new ≡ with_next next (leaf_from_bytes p.bytes) = ap leaf_from_bytes e ∙ legs_linked p.bytes next room small in
    changed a_leaf (leaf_with_next next) p new h form (ap (λ v. let x : Node LegView BoxView = ALeaf v in x) legs)

pub replicated : (m : ℕ) → let zeros : List ℕ = replicate m 0 in length zeros ≡ m
replicated m = length-replicate {A = ℕ} m 0

-- zeros say 0
pub zero_number : (k a m : ℕ) → a + k ≤ m → number_at k a (replicate m 0) ≡ big_number k (replicate k 0)
unfolding number_at
zero_number k a m h = ap (big_number k) (zeros-part m k a h)

-- a leaf of no legs yet
abbrev pub begun : ℕ → ℕ → List ℕ → List ℕ
begun feature previous zeros = put 4 (big_bytes 4 previous) (put 0 (big_bytes 4 feature) zeros)

module _ (feature previous m : ℕ) (zeros : List ℕ) (are : zeros ≡ replicate m 0) (room : 16 ≤ m) where
  zeros_long : 16 ≤ length zeros
  zeros_long = omega (arith, ap length are, replicated m, room)

  length_first : length (put 0 (big_bytes 4 feature) zeros) ≡ length zeros
  length_first = length-set zeros 4 0 feature (omega arith) zeros_long

  pub length_begun : length (begun feature previous zeros) ≡ length zeros
  length_begun =
      length-set (put 0 (big_bytes 4 feature) zeros) 4 4 previous (omega arith) (omega (arith, length_first, zeros_long))
      ∙ length_first

  still_zero : (k a : ℕ) → 8 ≤ a → a + k ≤ 16 → number_at k a (begun feature previous zeros) ≡ big_number k (replicate k 0)
  still_zero k a above within =
      number-unset (put 0 (big_bytes 4 feature) zeros) 4 4 previous (omega arith) (omega (arith, length_first, zeros_long)) k a (inr (omega (arith, above)))
      ∙ number-unset zeros 4 0 feature (omega arith) zeros_long k a (inr (omega (arith, above)))
      ∙ ap (number_at k a) are ∙ zero_number k a m (omega (arith, within, room))

  pub begun_count : leaf_leg_count (begun feature previous zeros) ≡ 0
  begun_count = still_zero 2 12 (omega arith) (omega arith)

  pub begun_zero : number_at 2 14 (begun feature previous zeros) ≡ 0
  begun_zero = still_zero 2 14 (omega arith) (omega arith)

  begun_next : number_at 4 8 (begun feature previous zeros) ≡ 0
  begun_next = still_zero 4 8 (omega arith) (omega arith)

  pub begun_feature : feature < 2 ^ 32 → leaf_feature (begun feature previous zeros) ≡ feature
  begun_feature h =
      number-unset (put 0 (big_bytes 4 feature) zeros) 4 4 previous (omega arith) (omega (arith, length_first, zeros_long)) 4 0 (inl (omega arith))
      ∙ number-set zeros 4 0 feature (omega arith) zeros_long (omega (arith, h))

  begun_previous : previous < 2 ^ 32 → number_at 4 4 (begun feature previous zeros) ≡ previous
  begun_previous h = number-set (put 0 (big_bytes 4 feature) zeros) 4 4 previous (omega arith) (omega (arith, length_first, zeros_long)) (omega (arith, h))

  pub begun_leaf : feature < 2 ^ 32 → previous < 2 ^ 32 → leaf_from_bytes (begun feature previous zeros) ≡ record { feature = feature; previous = previous; next = 0; legs = [] }
  unfolding leaf_from_bytes
  begun_leaf h g =
      let bytes = begun feature previous zeros in
      let f = begun_feature h in
      let p = begun_previous g in
      let legs = ap (made (leaf_leg bytes)) begun_count in
      λ i. record { feature = f i; previous = p i; next = begun_next i; legs = legs i }

pub leaf_begun : (p : Payload) (previous : ℕ) (l : LegView) (zeros new : List ℕ) → p.kind ≡ Leaf → p.bytes ≡ new → new ≡ pushed 80 12 (leg_bytes l) (begun l.feature previous zeros)
    → zeros ≡ replicate 4056 0 → l.feature < 2 ^ 32 → previous < 2 ^ 32 → LegReadsBack l → node_of p ≡ Some (new_leaf previous l)
leaf_begun p previous l zeros new kind is e are h g back =
    let bytes = begun l.feature previous zeros in
    let none = begun_count l.feature previous 4056 zeros are (omega arith) in
    let long = length_begun l.feature previous 4056 zeros are (omega arith) in
    let len : 4056 ≤ length bytes = omega (arith, long, ap length are, replicated 4056) in
    let small : leaf_leg_count bytes < 50 = omega (arith, none) in
    let feature = sym (begun_feature l.feature previous 4056 zeros are (omega arith) h) in
    let zero = begun_zero l.feature previous 4056 zeros are (omega arith) in
    let legs = ap (all_below (is_leg_at bytes)) none in
    let form = form_pushed bytes l len small back feature zero legs (λ z. absurd (omega (arith, z, none))) in
    let view = legs_pushed bytes l len small back feature ∙ ap (with_leg l) (begun_leaf l.feature previous 4056 zeros are (omega arith) h g) in
    node_is a_leaf p kind (ap is_leaf (is ∙ e) ∙ form)
    ∙ ap (λ v. let x : Node LegView BoxView = ALeaf v in Some x) (ap leaf_from_bytes (is ∙ e) ∙ view)

-- An inner page after a change.
use Rattle.std.proofs.Common.{◌≡◌, ◌≢◌, ℕ, ◌+◌, ◌*◌, ◌^◌, ◌<◌, ◌≤◌, true, List, [], ◌∷◌, ◌++◌, length, Some, sym, ap, ◌∙◌, arith, inl, inr, ⊎_elim, ◌⊎◌, replicate}
use Rattle.std.specs.Option.{is_some, ForSome}
use Rattle.std.specs.Prelude.{option_map}
use Rattle.std.proofs.lemmas.Bool.Decides.{eqb_tells}
use Rattle.std.proofs.lemmas.Bool.{cases_lt}
use Rattle.byteorder.specs.Endian.{big_bytes, big_number}
use Rattle.legs.specs.Legs.{LegView}
use Rattle.legs.specs.Boxes.{BoxView, cover_of}
use Rattle.pages.specs.declared.payload.Kind.TheVariants.{Inner}
use Rattle.pages.specs.declared.payload.Payload.{Payload}
use Rattle.tbnode.specs.Nodes.{EntryView, Node, AnInner, as_inner, with_entry, widened, with_wider}
use Rattle.tbnode.specs.Parts.{put, number_at, slot, all_below}
use Rattle.tbnode.specs.Layout.{entry_bytes, entry_from_bytes, is_entry}
use Rattle.tbnode.specs.Form.{level_of, entry_count, entry_at, inner_of, is_entry_at, is_inner, node_of}
use Rattle.tbnode.specs.Edits.{new_inner, inner_with_entry, inner_with_wider}
use Rattle.tbnode.specs.Steps.{EntryReadsBack, pushed}
use Rattle.tbnode.proofs.ListLemmas.{and_both, all_below-at, all_below-same, all_below-more, all_below-true, made, made-same, made-more, made-widened}
use Rattle.tbnode.proofs.LegLemmas.{length-entry_bytes}
use Rattle.tbnode.proofs.FormLemmas.{inner_form, is_inner-form, length-entries}
use Rattle.tbnode.proofs.KindLemmas.{HoldsInner, an_inner, changed, held, node_is, seen_is}
use Rattle.tbnode.proofs.SlotLemmas.{number-set, number-unset, head-slot, slot-before, slot-after, slot-same, count-pushed, head-pushed, slot-pushed, slot-last, length-set}
use Rattle.tbnode.proofs.LeafLemmas.{replicated, zero_number}

same_or_not : (i t : ℕ) → (i ≡ t) ⊎ (i ≢ t)
same_or_not i t = ⊎_elim (λ y. inl y.1) (λ n. inr n.1) (eqb_tells i t)

-- an entry more
module _ (bytes : List ℕ) (x : EntryView BoxView) (len : 4056 ≤ length bytes) (small : entry_count bytes < 72) (back : EntryReadsBack x) where
  fits : 16 + 56 * entry_count bytes + 56 ≤ length bytes
  fits = omega (arith, len, small)

  head_kept : (k a : ℕ) → a + k ≤ 16 → (a + k ≤ 2) ⊎ (4 ≤ a) → number_at k a (pushed 56 2 (entry_bytes x) bytes) ≡ number_at k a bytes
  head_kept k a h apart = head-pushed bytes 56 2 (entry_bytes x) (length-entry_bytes x) (omega arith) fits k a h apart

  counted : entry_count (pushed 56 2 (entry_bytes x) bytes) ≡ entry_count bytes + 1
  counted = count-pushed bytes 56 2 (entry_bytes x) (length-entry_bytes x) (omega arith) fits (omega (arith, small))

  slot_kept : (i : ℕ) → i < entry_count bytes → slot 56 i (pushed 56 2 (entry_bytes x) bytes) ≡ slot 56 i bytes
  slot_kept i h = slot-pushed bytes 56 2 (entry_bytes x) (length-entry_bytes x) (omega arith) fits i h

  slot_new : slot 56 (entry_count bytes) (pushed 56 2 (entry_bytes x) bytes) ≡ entry_bytes x
  slot_new = slot-last bytes 56 2 (entry_bytes x) (length-entry_bytes x) (omega arith) fits

  pub entries_pushed : inner_of (pushed 56 2 (entry_bytes x) bytes) ≡ with_entry x (inner_of bytes)
  unfolding inner_of
  entries_pushed =
      let new = pushed 56 2 (entry_bytes x) bytes in
      let n = entry_count bytes in
      let level = head_kept 2 0 (omega arith) (inl (omega arith)) in
      let entries : made (entry_at new) (entry_count new) ≡ made (entry_at bytes) n ++ x ∷ [] =
      ap (made (entry_at new)) counted ∙ made-more (entry_at new) n
      ∙ ap (λ e. made (entry_at new) n ++ e ∷ []) (ap entry_from_bytes slot_new ∙ back.same)
      ∙ ap (λ es. es ++ x ∷ []) (made-same (entry_at new) (entry_at bytes) n (λ i h. ap entry_from_bytes (slot_kept i h))) in
      λ i. record { level = level i; entries = entries i }

  pub form_pushed : 1 ≤ level_of bytes → number_at 8 4 bytes ≡ 0 → number_at 4 12 bytes ≡ 0 → all_below (is_entry_at bytes) (entry_count bytes) ≡ true
      → is_inner (pushed 56 2 (entry_bytes x) bytes) ≡ true
  form_pushed above zeros zero entries =
      let new = pushed 56 2 (entry_bytes x) bytes in
      let n = entry_count bytes in
      let level = head_kept 2 0 (omega arith) (inl (omega arith)) in
      is_inner-form new (record {
        above = omega (arith, level, above);
        some = omega (arith, counted);
        room = omega (arith, counted, small);
        zeros = head_kept 8 4 (omega arith) (inr (omega arith)) ∙ zeros;
        zero = head_kept 4 12 (omega arith) (inr (omega arith)) ∙ zero;
        entries =
            ap (all_below (is_entry_at new)) counted ∙ all_below-more (is_entry_at new) n
            ∙ and_both (all_below (is_entry_at new) n) (is_entry_at new n)
            (all_below-same (is_entry_at new) (is_entry_at bytes) n (λ i h. ap is_entry (slot_kept i h)) ∙ entries)
            (ap is_entry slot_new ∙ back.lawful);
      })

-- a payload that says an inner page which has room for an entry
pub record HasRoom (p : Payload) : Type 0 where
  pub held : HoldsInner p
  pub room : length (inner_of p.bytes).entries < 72
  pub small : entry_count p.bytes < 72

pub has_room : (p : Payload) → is_some (as_inner (node_of p)) ≡ true → ForSome (as_inner (node_of p)) (λ page. length page.entries < 72) → HasRoom p
has_room p some room =
    let h = held an_inner p some in
    let t = room (inner_of p.bytes) (seen_is an_inner p h) in
    record { held = h; room = t; small = omega (arith, t, length-entries p.bytes) }

-- a payload that says an inner page which has an entry i
pub record HasEntry (p : Payload) (i : ℕ) : Type 0 where
  pub held : HoldsInner p
  pub within : i < length (inner_of p.bytes).entries
  pub below : i < entry_count p.bytes
  pub most : entry_count p.bytes ≤ 72

pub has_entry : (p : Payload) (i : ℕ) → is_some (as_inner (node_of p)) ≡ true → ForSome (as_inner (node_of p)) (λ page. i < length page.entries) → HasEntry p i
has_entry p i some within =
    let h = held an_inner p some in
    let t = within (inner_of p.bytes) (seen_is an_inner p h) in
    record { held = h; within = t; below = omega (arith, t, length-entries p.bytes); most = (inner_form p.bytes h.form).room }

pub entry_pushed : (p : Payload) (x : EntryView BoxView) (new : List ℕ) → new ≡ pushed 56 2 (entry_bytes x) p.bytes → 4056 ≤ length p.bytes → HoldsInner p → EntryReadsBack x
    → length (inner_of p.bytes).entries < 72 → node_of (record p { bytes = new }) ≡ option_map (inner_with_entry x) (as_inner (node_of p))
entry_pushed p x new e len h back room =
    let bytes = p.bytes in
    let f = inner_form bytes h.form in
    let small : entry_count bytes < 72 = omega (arith, room, length-entries bytes) in
    let form : is_inner new ≡ true = ap is_inner e ∙ form_pushed bytes x len small back f.above f.zeros f.zero f.entries in
    let view : inner_of new ≡ with_entry x (inner_of bytes) = ap inner_of e ∙ entries_pushed bytes x len small back in
    changed an_inner (inner_with_entry x) p new h form (ap (λ v. let y : Node LegView BoxView = AnInner v in y) view)

-- an inner page of no entries yet
module _ (level m : ℕ) (zeros : List ℕ) (are : zeros ≡ replicate m 0) (room : 16 ≤ m) where
  zeros_long : 16 ≤ length zeros
  zeros_long = omega (arith, ap length are, replicated m, room)

  pub length_begun : length (put 0 (big_bytes 2 level) zeros) ≡ length zeros
  length_begun = length-set zeros 2 0 level (omega arith) zeros_long

  pub still_zero : (k a : ℕ) → 2 ≤ a → a + k ≤ 16 → number_at k a (put 0 (big_bytes 2 level) zeros) ≡ big_number k (replicate k 0)
  still_zero k a above within =
      number-unset zeros 2 0 level (omega arith) zeros_long k a (inr (omega (arith, above)))
      ∙ ap (number_at k a) are ∙ zero_number k a m (omega (arith, within, room))

  pub begun_count : entry_count (put 0 (big_bytes 2 level) zeros) ≡ 0
  begun_count = still_zero 2 2 (omega arith) (omega arith)

  pub begun_level : level < 2 ^ 16 → level_of (put 0 (big_bytes 2 level) zeros) ≡ level
  begun_level h = number-set zeros 2 0 level (omega arith) zeros_long (omega (arith, h))

  pub begun_inner : level < 2 ^ 16 → inner_of (put 0 (big_bytes 2 level) zeros) ≡ record { level = level; entries = [] }
  unfolding inner_of
  begun_inner h =
      let bytes = put 0 (big_bytes 2 level) zeros in
      let l = begun_level h in
      let entries = ap (made (entry_at bytes)) begun_count in
      λ i. record { level = l i; entries = entries i }

pub inner_begun : (p : Payload) (level : ℕ) (x : EntryView BoxView) (zeros new : List ℕ) → p.kind ≡ Inner → p.bytes ≡ new → new ≡ pushed 56 2 (entry_bytes x) (put 0 (big_bytes 2 level) zeros)
    → zeros ≡ replicate 4056 0 → 1 ≤ level → level < 2 ^ 16 → EntryReadsBack x → node_of p ≡ Some (new_inner level x)
inner_begun p level x zeros new kind is e are above h back =
    let bytes = put 0 (big_bytes 2 level) zeros in
    let none = begun_count level 4056 zeros are (omega arith) in
    let long = length_begun level 4056 zeros are (omega arith) in
    let len : 4056 ≤ length bytes = omega (arith, long, ap length are, replicated 4056) in
    let small : entry_count bytes < 72 = omega (arith, none) in
    let l = begun_level level 4056 zeros are (omega arith) h in
    let entries = ap (all_below (is_entry_at bytes)) none in
    let z = still_zero level 4056 zeros are (omega arith) in
    let form = form_pushed bytes x len small back (omega (arith, l, above)) (z 8 4 (omega arith) (omega arith)) (z 4 12 (omega arith) (omega arith)) entries in
    let view = entries_pushed bytes x len small back ∙ ap (with_entry x) (begun_inner level 4056 zeros are (omega arith) h) in
    node_is an_inner p kind (ap is_inner (is ∙ e) ∙ form)
    ∙ ap (λ v. let y : Node LegView BoxView = AnInner v in Some y) (ap inner_of (is ∙ e) ∙ view)

-- an entry is written over
module _ (bytes : List ℕ) (t : ℕ) (x : EntryView BoxView) (len : 4056 ≤ length bytes) (below : t < entry_count bytes) (small : entry_count bytes ≤ 72) (back : EntryReadsBack x) where
  over_fits : 16 + 56 * t + 56 ≤ length bytes
  over_fits = omega (arith, len, below, small)

  over_head : (k a : ℕ) → a + k ≤ 16 → number_at k a (put (16 + 56 * t) (entry_bytes x) bytes) ≡ number_at k a bytes
  over_head k a h = head-slot bytes 56 t (entry_bytes x) (length-entry_bytes x) over_fits k a h

  over_here : slot 56 t (put (16 + 56 * t) (entry_bytes x) bytes) ≡ entry_bytes x
  over_here = slot-same bytes 56 t (entry_bytes x) (length-entry_bytes x) over_fits

  over_else : (i : ℕ) → i ≢ t → slot 56 i (put (16 + 56 * t) (entry_bytes x) bytes) ≡ slot 56 i bytes
  over_else i h =
      ⊎_elim
      (λ lt. slot-before bytes 56 t (entry_bytes x) (length-entry_bytes x) over_fits i lt)
      (λ ge. slot-after bytes 56 t (entry_bytes x) (length-entry_bytes x) over_fits i (omega (arith, ge, h)))
      (cases_lt i t)

  pub over_form : is_inner bytes ≡ true → is_inner (put (16 + 56 * t) (entry_bytes x) bytes) ≡ true
  over_form e =
      let new = put (16 + 56 * t) (entry_bytes x) bytes in
      let n = entry_count bytes in
      let f = inner_form bytes e in
      let level = over_head 2 0 (omega arith) in
      let count = over_head 2 2 (omega arith) in
      is_inner-form new (record {
        above = omega (arith, level, f.above);
        some = omega (arith, count, f.some);
        room = omega (arith, count, f.room);
        zeros = over_head 8 4 (omega arith) ∙ f.zeros;
        zero = over_head 4 12 (omega arith) ∙ f.zero;
        entries =
            ap (all_below (is_entry_at new)) count
            ∙ all_below-true (is_entry_at new) n (λ i h.
            ⊎_elim
            (λ same. let s : t ≡ i = omega (arith, same) in ap (λ j. is_entry (slot 56 j new)) (sym s) ∙ ap is_entry over_here ∙ back.lawful)
            (λ other. ap is_entry (over_else i other) ∙ all_below-at (is_entry_at bytes) n i f.entries h)
            (same_or_not i t));
      })

  pub over_view : (box : BoxView) → x ≡ record (entry_at bytes t) { bounds = cover_of (entry_at bytes t).bounds box }
      → inner_of (put (16 + 56 * t) (entry_bytes x) bytes) ≡ with_wider (λ p q. cover_of p q) t box (inner_of bytes)
  unfolding inner_of
  over_view box is =
      let new = put (16 + 56 * t) (entry_bytes x) bytes in
      let n = entry_count bytes in
      let level = over_head 2 0 (omega arith) in
      let entries : made (entry_at new) (entry_count new) ≡ widened (λ p q. cover_of p q) t box (made (entry_at bytes) n) =
      ap (made (entry_at new)) (over_head 2 2 (omega arith))
      ∙ made-widened (λ p q. cover_of p q) box (entry_at bytes) (entry_at new) t n (λ i other _. ap entry_from_bytes (over_else i other)) (ap entry_from_bytes over_here ∙ back.same ∙ is) below in
      λ i. record { level = level i; entries = entries i }

pub entry_widened : (p : Payload) (t : ℕ) (x : EntryView BoxView) (box : BoxView) (new : List ℕ) → new ≡ put (16 + 56 * t) (entry_bytes x) p.bytes → 4056 ≤ length p.bytes → HoldsInner p → EntryReadsBack x
    → t < length (inner_of p.bytes).entries → x ≡ record (entry_at p.bytes t) { bounds = cover_of (entry_at p.bytes t).bounds box }
    → node_of (record p { bytes = new }) ≡ option_map (inner_with_wider t box) (as_inner (node_of p))
entry_widened p t x box new e len h back within is =
    let bytes = p.bytes in
    let f = inner_form bytes h.form in
    let below : t < entry_count bytes = omega (arith, within, length-entries bytes) in
    let form : is_inner new ≡ true = ap is_inner e ∙ over_form bytes t x len below f.room back h.form in
    let view : inner_of new ≡ with_wider (λ p q. cover_of p q) t box (inner_of bytes) = ap inner_of e ∙ over_view bytes t x len below f.room back box is in
    changed an_inner (inner_with_wider t box) p new h form (ap (λ v. let y : Node LegView BoxView = AnInner v in y) view)

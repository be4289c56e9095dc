-- A field is text exactly where it is text when cut.
use Rattle.std.proofs.Common.{[], ◌∷◌, map, reverse, ℕ, ◌+◌, ◌-◌, ◌<◌, ◌≡◌, ◌∙◌, ap, refl, List, length, take, drop, get_or, true, false, arith, inl, inr, unwrap_or, zero, suc}
use Rattle.std.proofs.lemmas.Bool.{cases_lt, and_parts, false_from_ne_true}
use Rattle.std.proofs.lemmas.List.Sums.{prefix_len_passes, prefix_len-le-length, suffix_len-le-length}
use Rattle.std.proofs.lemmas.List.{get_or-reverse, get_or-drop, get_or-take, get_or_past, take-append-drop, length-drop, length-take-le}
use Rattle.std.proofs.lemmas.Str.{IsUtf8-append, IsUtf8-from_ascii, IsUtf8-drop, IsUtf8-take, IsUtf8-from_is_utf8, is_utf8-from_IsUtf8}
use Rattle.std.specs.List.{list_all, prefix_len, suffix_len}
use Rattle.std.specs.Str.{IsAscii, IsUtf8, is_utf8}
use Rattle.csv.specs.Records.{AllText, field_at}
use Rattle.mfcsv.specs.Rows.{field}
use Rattle.words.specs.Words.{is_blank, cut, cut_front, cut_back}
use Rattle.words.proofs.CutLemmas.{blank_ascii, boundary_after, boundary_at_end}

small : 0 < 128
small = omega arith

-- what is cut off at the front
front_ascii : (f : List ℕ) → IsAscii (take (prefix_len is_blank f) f)
front_ascii f i =
    let n : ℕ = prefix_len is_blank f in
    elim (cases_lt i n) [
      | inl lt ↦ rw (get_or-take n f i 0 lt) (blank_ascii (get_or f i 0) (prefix_len_passes is_blank f i 0 lt))
      | inr ge ↦ rw (get_or_past (take n f) i 0 (omega (arith, length-take-le n f (prefix_len-le-length is_blank f)))) small
    ]

-- what is cut off at the end
back_ascii : (f : List ℕ) → IsAscii (drop (length f - suffix_len is_blank f) f)
back_ascii f i =
    let m : ℕ = suffix_len is_blank f in
    let k : ℕ = length f - m in
    let within = suffix_len-le-length is_blank f in
    elim (cases_lt (k + i) (length f)) [
      | inl lt ↦
          let j : ℕ = length f - 1 - (k + i) in
          let below : j < prefix_len is_blank (reverse f) = omega arith in
          let in_f : j < length f = omega arith in
          let back : length f - 1 - j ≡ k + i = omega arith in
          let at : get_or (reverse f) j 0 ≡ get_or f (k + i) 0 = get_or-reverse f j 0 in_f ∙ ap (λ x. get_or f x 0) back in
          let passes : is_blank (get_or f (k + i) 0) ≡ true = rw at at (prefix_len_passes is_blank (reverse f) j 0 below) in
          rw (get_or-drop k f i 0) (blank_ascii (get_or f (k + i) 0) passes)
      | inr ge ↦ rw (get_or_past (drop k f) i 0 (omega (arith, length-drop k f))) small
    ]

IsUtf8-cut_front : (f : List ℕ) → IsUtf8 f → IsUtf8 (cut_front f)
IsUtf8-cut_front f u = IsUtf8-drop f (prefix_len is_blank f) u (boundary_after is_blank blank_ascii f (prefix_len is_blank f) u (omega arith))

IsUtf8-cut_back : (f : List ℕ) → IsUtf8 f → IsUtf8 (cut_back f)
IsUtf8-cut_back f u = IsUtf8-take f (length f - suffix_len is_blank f) u (boundary_at_end is_blank blank_ascii f (suffix_len is_blank f) refl)

IsUtf8-from_cut_front : (f : List ℕ) → IsUtf8 (cut_front f) → IsUtf8 f
IsUtf8-from_cut_front f u =
    let n : ℕ = prefix_len is_blank f in
    rw (take-append-drop n f) at (IsUtf8-append (take n f) (drop n f) (IsUtf8-from_ascii (take n f) (front_ascii f)) u)

IsUtf8-from_cut_back : (f : List ℕ) → IsUtf8 (cut_back f) → IsUtf8 f
IsUtf8-from_cut_back f u =
    let n : ℕ = length f - suffix_len is_blank f in
    rw (take-append-drop n f) at (IsUtf8-append (take n f) (drop n f) u (IsUtf8-from_ascii (drop n f) (back_ascii f)))

is_utf8-cut : (f : List ℕ) → IsUtf8 f → is_utf8 (cut f) ≡ true
unfolding cut
is_utf8-cut f u = is_utf8-from_IsUtf8 (cut_back (cut_front f)) (IsUtf8-cut_back (cut_front f) (IsUtf8-cut_front f u))

IsUtf8-from_cut : (f : List ℕ) → is_utf8 (cut f) ≡ true → IsUtf8 f
unfolding cut
IsUtf8-from_cut f h = IsUtf8-from_cut_front f (IsUtf8-from_cut_back (cut_front f) (IsUtf8-from_is_utf8 (cut_back (cut_front f)) h))

-- the fields of a record
pub all-cut : (fields : List (List ℕ)) → AllText fields → list_all is_utf8 (map cut fields) ≡ true
unfolding AllText
all-cut [] h = refl
all-cut (f ∷ fs) h = rw (is_utf8-cut f h.0) (all-cut fs h.1)

AllText-from_cut : (fields : List (List ℕ)) → list_all is_utf8 (map cut fields) ≡ true → AllText fields
unfolding AllText
AllText-from_cut [] h = tt
AllText-from_cut (f ∷ fs) h =
    let both = and_parts (is_utf8 (cut f)) (list_all is_utf8 (map cut fs)) h in
    (IsUtf8-from_cut f both.0, AllText-from_cut fs both.1)

pub not_all-cut : (fields : List (List ℕ)) → ¬ (AllText fields) → list_all is_utf8 (map cut fields) ≡ false
not_all-cut fields h = false_from_ne_true (list_all is_utf8 (map cut fields)) (λ t. h (AllText-from_cut fields t))

-- the field at a place of the cut ones is the one at that place, cut
pub field-cut : (fields : List (List ℕ)) (place : ℕ) → field (map cut fields) place ≡ cut (unwrap_or (field_at fields place) [])
unfolding field_at cut
field-cut [] place = refl
field-cut (f ∷ fs) zero = refl
field-cut (f ∷ fs) (suc place) = field-cut fs place

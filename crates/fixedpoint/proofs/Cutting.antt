-- A text cut at its first point.
use Rattle.std.proofs.Common.{ℕ, suc, ◌+◌, ◌<◌, ◌≡◌, ◌∙◌, ◌++◌, ◌∷◌, [], List, Some, None, ap, sym, refl, subst, length, take, drop, get_or, true, false, cond, arith}
use Rattle.std.proofs.lemmas.Bool.Decides.{nat_tests}
use Rattle.std.proofs.lemmas.Bool.{and_parts, and_left, and_right}
use Rattle.std.proofs.lemmas.List.{drop-drop, take-append-drop, length-drop}
use Rattle.std.proofs.Math.Seq.{take-append_seam, drop-append_seam, drop-cons}
use Rattle.std.specs.List.{list_all, position_or_len, before_first, after_first}
use Rattle.std.specs.Char.{is_ascii_digit}
use Rattle.fixedpoint.specs.Number.{is_point}
use Rattle.fixedpoint.specs.Steps.{point_tail}

digit_is_no_point : (d : ℕ) → is_ascii_digit d ≡ true → is_point d ≡ false
digit_is_no_point d h = grind (arith, nat_tests)

-- where the point stands behind digits
point_at_place : (ds fs : List ℕ) → list_all is_ascii_digit ds ≡ true → position_or_len is_point (ds ++ (46 ∷ fs)) ≡ length ds
point_at_place [] fs h = refl
point_at_place (d ∷ ds) fs h =
    let parts = and_parts (is_ascii_digit d) (list_all is_ascii_digit ds) h in
    rw (digit_is_no_point d parts.0) (omega (arith, point_at_place ds fs parts.1))

no_point_at : (ds : List ℕ) → list_all is_ascii_digit ds ≡ true → position_or_len is_point (ds ++ []) ≡ length ds
no_point_at [] h = refl
no_point_at (d ∷ ds) h =
    let parts = and_parts (is_ascii_digit d) (list_all is_ascii_digit ds) h in
    rw (digit_is_no_point d parts.0) (omega (arith, no_point_at ds parts.1))

pub parts_pointed : (ds fs : List ℕ) → list_all is_ascii_digit ds ≡ true → (before_first is_point (ds ++ (46 ∷ fs)) ≡ ds) × (after_first is_point (ds ++ (46 ∷ fs)) ≡ fs)
parts_pointed ds fs h =
    let at = point_at_place ds fs h in (
      ap (λ n. take n (ds ++ (46 ∷ fs))) at ∙ take-append_seam ds (46 ∷ fs),
      ap (λ n. drop (n + 1) (ds ++ (46 ∷ fs))) at ∙ sym (drop-drop 1 (length ds) (ds ++ (46 ∷ fs))) ∙ ap (drop 1) (drop-append_seam ds (46 ∷ fs)),
    )

pub parts_plain : (ds : List ℕ) → list_all is_ascii_digit ds ≡ true → (before_first is_point (ds ++ []) ≡ ds) × (after_first is_point (ds ++ []) ≡ [])
parts_plain ds h =
    let at = no_point_at ds h in (
      ap (λ n. take n (ds ++ [])) at ∙ take-append_seam ds [],
      ap (λ n. drop (n + 1) (ds ++ [])) at ∙ sym (drop-drop 1 (length ds) (ds ++ [])) ∙ ap (drop 1) (drop-append_seam ds []),
    )

-- digits, then nothing or a point and what it leads in
parts_behind : (ds rest fs : List ℕ) → list_all is_ascii_digit ds ≡ true → point_tail rest ≡ Some fs → (before_first is_point (ds ++ rest) ≡ ds) × (after_first is_point (ds ++ rest) ≡ fs)
parts_behind ds [] fs h e = let parts = parts_plain ds h in let same : [] ≡ fs = cc in (parts.0, parts.1 ∙ same)
parts_behind ds (c ∷ cs) fs h e =
    elim (is_point c) as (λ b. is_point c ≡ b → (before_first is_point (ds ++ (c ∷ cs)) ≡ ds) × (after_first is_point (ds ++ (c ∷ cs)) ≡ fs)) [
      | true ↦ λ yes.
          let point : c ≡ 46 = grind (arith, nat_tests) in
          let is : cond (is_point c) (Some cs) None ≡ Some cs = rw yes refl in
          let same : cs ≡ fs = cc in
          let parts = parts_pointed ds cs h in
          rw point (parts.0, parts.1 ∙ same)
      | false ↦ λ no. let is : cond (is_point c) (Some cs) None ≡ None = rw no refl in absurd (cc)
    ] refl

-- what stands before the first point begins with what the text begins with
first_part : (c : ℕ) (cs : List ℕ) → is_point c ≡ false → before_first is_point (c ∷ cs) ≡ c ∷ before_first is_point cs
first_part c cs point =
    let one : position_or_len is_point (c ∷ cs) ≡ suc (position_or_len is_point cs) = rw point (omega arith) in
    ap (λ n. take n (c ∷ cs)) one

-- digits, then something else than a point
parts_other : (ds : List ℕ) (c : ℕ) (cs : List ℕ) → is_ascii_digit c ≡ false → is_point c ≡ false → list_all is_ascii_digit ds ≡ true → list_all is_ascii_digit (before_first is_point (ds ++ (c ∷ cs))) ≡ false
parts_other [] c cs digit point h = ap (list_all is_ascii_digit) (first_part c cs point) ∙ and_left (is_ascii_digit c) (list_all is_ascii_digit (before_first is_point cs)) digit
parts_other (d ∷ ds) c cs digit point h =
    let parts = and_parts (is_ascii_digit d) (list_all is_ascii_digit ds) h in
    ap (list_all is_ascii_digit) (first_part d (ds ++ (c ∷ cs)) (digit_is_no_point d parts.0))
    ∙ and_right (is_ascii_digit d) (list_all is_ascii_digit (before_first is_point (ds ++ (c ∷ cs)))) (parts_other ds c cs digit point parts.1)

-- a text that begins with n digits, and goes on with nothing or a point
pub cut_found : (t fs : List ℕ) (n : ℕ) → list_all is_ascii_digit (take n t) ≡ true → point_tail (drop n t) ≡ Some fs → (before_first is_point t ≡ take n t) × (after_first is_point t ≡ fs)
cut_found t fs n h e =
    let P : List ℕ → Type 0 = λ x. (before_first is_point x ≡ take n t) × (after_first is_point x ≡ fs) in
    subst P (take-append-drop n t) (parts_behind (take n t) (drop n t) fs h e)

other_behind : (ds rest : List ℕ) → list_all is_ascii_digit ds ≡ true → ((c : ℕ) (cs : List ℕ) → rest ≡ c ∷ cs → is_ascii_digit c ≡ false) → point_tail rest ≡ None → list_all is_ascii_digit (before_first is_point (ds ++ rest)) ≡ false
other_behind ds [] h stops e = absurd (cc)
other_behind ds (c ∷ cs) h stops e =
    elim (is_point c) as (λ b. is_point c ≡ b → list_all is_ascii_digit (before_first is_point (ds ++ (c ∷ cs))) ≡ false) [
      | true ↦ λ yes. let is : cond (is_point c) (Some cs) None ≡ Some cs = rw yes refl in absurd (cc)
      | false ↦ λ no. parts_other ds c cs (stops c cs refl) no h
    ] refl

-- a text that begins with n digits, and goes on with something else
pub cut_refused : (t : List ℕ) (n : ℕ) → list_all is_ascii_digit (take n t) ≡ true → (n < length t → is_ascii_digit (get_or t n 0) ≡ false) → point_tail (drop n t) ≡ None → list_all is_ascii_digit (before_first is_point t) ≡ false
cut_refused t n h stops e =
    let P : List ℕ → Type 0 = λ x. list_all is_ascii_digit (before_first is_point x) ≡ false in
    let first : (c : ℕ) (cs : List ℕ) → drop n t ≡ c ∷ cs → is_ascii_digit c ≡ false = λ c cs q.
    (let len = ap length q ∙ refl in
    let lt : n < length t = omega (arith, length-drop n t) in
    let same : get_or t n 0 ∷ drop (suc n) t ≡ c ∷ cs = sym (drop-cons t n 0 lt) ∙ q in
    let head : get_or t n 0 ≡ c = cc in
    ap is_ascii_digit (sym head) ∙ stops lt) in
    subst P (take-append-drop n t) (other_behind (take n t) (drop n t) h first e)

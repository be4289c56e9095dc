-- What the steps of reading make of the parts of a text.
use Rattle.std.proofs.Common.{ℕ, suc, ◌+◌, ◌-◌, ◌*◌, ◌^◌, ◌<◌, ◌≤◌, ◌≡◌, ◌∙◌, ◌++◌, ◌∷◌, List, ap, sym, length, take, drop, get_or, true, false, ltb, min, arith, inl, inr}
use Rattle.std.proofs.lemmas.Bool.Decides.{nat_tests}
use Rattle.std.proofs.lemmas.Bool.{and_parts, and_left, and_right, and_from, cases_lt, lt-ltb, both_ways}
use Rattle.std.proofs.lemmas.List.{length-append, length-drop, length-take-le, take-append-drop, take_all, drop_all, take-take, get_or-take}
use Rattle.std.proofs.lemmas.List.Folds.{list_all-append}
use Rattle.std.proofs.Math.Seq.{drop-cons}
use Rattle.std.specs.List.{list_all, before_first, after_first, position_or_len}
use Rattle.std.specs.Char.{is_ascii_digit}
use Rattle.std.specs.Str.Parse.{digits_value, digits_value_after}
use Rattle.fixedpoint.specs.Number.{is_point, are_parts, rounded}
use Rattle.fixedpoint.specs.Steps.{IsMagnitude, IsCut, AreParts, cut_units}
use Rattle.fixedpoint.proofs.Decimal.{past, units_cut, capped_cut, magnitude_cut}

-- a slice to the end
pub rest_is : (n : ℕ) (xs : List ℕ) → take (length xs - n) (drop n xs) ≡ drop n xs
rest_is n xs = take_all (length xs - n) (drop n xs) (omega (arith, length-drop n xs))

-- a part that is not digits alone
pub refused_whole : (ws fs : List ℕ) → list_all is_ascii_digit ws ≡ false → are_parts ws fs ≡ false
refused_whole ws fs h =
    and_left (list_all is_ascii_digit (ws ++ fs)) _ (list_all-append is_ascii_digit ws fs ∙ and_left (list_all is_ascii_digit ws) (list_all is_ascii_digit fs) h)

pub refused_fraction : (ws fs : List ℕ) (n : ℕ) → list_all is_ascii_digit (drop n fs) ≡ false → are_parts ws fs ≡ false
refused_fraction ws fs n h =
    let back : list_all is_ascii_digit fs ≡ false = ap (list_all is_ascii_digit) (sym (take-append-drop n fs)) ∙ list_all-append is_ascii_digit (take n fs) (drop n fs)
    ∙ and_right (list_all is_ascii_digit (take n fs)) (list_all is_ascii_digit (drop n fs)) h in
    and_left (list_all is_ascii_digit (ws ++ fs)) _ (list_all-append is_ascii_digit ws fs ∙ and_right (list_all is_ascii_digit ws) (list_all is_ascii_digit fs) back)

-- digits alone, and at least one
all_digits : (fs : List ℕ) (n : ℕ) → list_all is_ascii_digit (take n fs) ≡ true → list_all is_ascii_digit (drop n fs) ≡ true → list_all is_ascii_digit fs ≡ true
all_digits fs n h g = ap (list_all is_ascii_digit) (sym (take-append-drop n fs)) ∙ list_all-append is_ascii_digit (take n fs) (drop n fs) ∙ and_from _ _ h g

accepted : (ws fs : List ℕ) → list_all is_ascii_digit ws ≡ true → list_all is_ascii_digit fs ≡ true → 0 < length ws + length fs → are_parts ws fs ≡ true
accepted ws fs h g some =
    and_from (list_all is_ascii_digit (ws ++ fs)) _ (list_all-append is_ascii_digit ws fs ∙ and_from _ _ h g) (lt-ltb 0 (length (ws ++ fs)) (omega (arith, length-append ws fs)))

-- of the first w bytes of the fraction n digits were read, behind `start`, as v
pub record Kept (fs : List ℕ) (w start n v : ℕ) : Type 0 where
  pub count : n ≤ length (take w fs)
  pub digits : list_all is_ascii_digit (take n (take w fs)) ≡ true
  pub stops : n < length (take w fs) → is_ascii_digit (get_or (take w fs) n 0) ≡ false
  pub value : v ≡ min past (digits_value_after 10 start (take n (take w fs)))

kept_front : (fs : List ℕ) (w start n v : ℕ) → w ≤ length fs → Kept fs w start n v → (n ≤ w) × (take n (take w fs) ≡ take n fs)
kept_front fs w start n v h kept =
    let len = length-take-le w fs h in
    let le : n ≤ w = omega (arith, kept.count) in
    (le, take-take n w fs le)

-- the parts of a text of digits alone
parts_are : (t : List ℕ) (fs : List ℕ) (w start n v whole_digits : ℕ) → w ≤ length fs → AreParts t start whole_digits fs → Kept fs w start n v → list_all is_ascii_digit (drop n fs) ≡ true → 0 < whole_digits + length fs
    → are_parts (before_first is_point t) fs ≡ true
parts_are t fs w start n v whole_digits le parts kept rest some =
    let front = kept_front fs w start n v le kept in
    let digits : list_all is_ascii_digit (take n fs) ≡ true = ap (list_all is_ascii_digit) (sym front.1) ∙ kept.digits in
    accepted (before_first is_point t) fs parts.digits (all_digits fs n digits rest) (omega (arith, parts.count))

-- what is not read is behind the places
cut_at_places : (s : ℕ) (fs : List ℕ) (w start n v : ℕ) → w ≡ min (length fs) s → Kept fs w start n v → list_all is_ascii_digit (drop n fs) ≡ true → n < length fs → n ≡ s
cut_at_places s fs w start n v width kept rest lt =
    let le : w ≤ length fs = omega arith in
    let front = kept_front fs w start n v le kept in
    let len = length-take-le w fs le in
    elim (cases_lt n w) [
      | inl below ↦
          let no : is_ascii_digit (get_or fs n 0) ≡ false = ap is_ascii_digit (sym (get_or-take w fs n 0 below)) ∙ kept.stops (omega arith) in
          let split : list_all is_ascii_digit (get_or fs n 0 ∷ drop (suc n) fs) ≡ true = ap (list_all is_ascii_digit) (sym (drop-cons fs n 0 lt)) ∙ rest in
          let yes = (and_parts (is_ascii_digit (get_or fs n 0)) (list_all is_ascii_digit (drop (suc n) fs)) split).0 in
          absurd (both_ways (is_ascii_digit (get_or fs n 0)) no yes)
      | inr above ↦ omega (arith, front.0)
    ]

-- so the digits read are the first s, or all
read_to_places : (s : ℕ) (fs : List ℕ) (w start n v : ℕ) → w ≡ min (length fs) s → Kept fs w start n v → list_all is_ascii_digit (drop n fs) ≡ true
    → (take n fs ≡ take s fs) × (drop n fs ≡ drop s fs) × (s - n ≡ s - length fs)
read_to_places s fs w start n v width kept rest =
    let le : w ≤ length fs = omega arith in
    let front = kept_front fs w start n v le kept in
    elim (cases_lt n (length fs)) [
      | inl lt ↦
          let at : n ≡ s = cut_at_places s fs w start n v width kept rest lt in
          (ap (λ k. take k fs) at, ap (λ k. drop k fs) at, omega arith)
      | inr ge ↦
          let short : length fs ≤ s = omega (arith, front.0) in
          (take_all n fs ge ∙ sym (take_all s fs short), drop_all n fs ge ∙ sym (drop_all s fs short), omega (arith, front.0))
    ]

-- of the fraction its first s digits were read
pub cut_is : (s : ℕ) (t fs : List ℕ) (w start n v whole_digits pow r : ℕ) → w ≡ min (length fs) s → AreParts t start whole_digits fs → Kept fs w start n v → list_all is_ascii_digit (drop n fs) ≡ true
    → 0 < whole_digits + length fs → pow ≡ 10 ^ (s - n) → r ≡ min (v * pow) 18446744073709551615 → IsCut s t r (drop n fs)
cut_is s t fs w start n v whole_digits pow r width parts kept rest some power result =
    let le : w ≤ length fs = omega arith in
    let front = kept_front fs w start n v le kept in
    let len = length-drop n fs in
    let at = read_to_places s fs w start n v width kept rest in
    let value : v ≡ min past (digits_value_after 10 start (take s fs)) = kept.value ∙ ap (λ x. min past (digits_value_after 10 start x)) (front.1 ∙ at.0) in
    let scale : pow ≡ 10 ^ (s - length fs) = power ∙ ap (λ k. 10 ^ k) at.2 in
    record {
      parts = ap (are_parts (before_first is_point t)) (sym parts.behind) ∙ parts_are t fs w start n v whole_digits le parts kept rest some;
      units = units_cut s (before_first is_point t) fs start v pow r parts.value value scale result ∙ ap (λ x. min past (cut_units s (before_first is_point t) x)) parts.behind;
      dropped = at.1 ∙ ap (drop s) parts.behind;
      digits = rest;
    }

-- what a cut's two sides make together
pub magnitude_of_cut : (k s : ℕ) (t : List ℕ) (u : ℕ) (dropped : List ℕ) (up r : ℕ) → 1 ≤ k → IsCut s t u dropped → up ≡ rounded k (length dropped) (digits_value 10 dropped)
    → r ≡ min (min (u * k) 18446744073709551615 + up) 18446744073709551615 → IsMagnitude (k * 10 ^ s) t r
magnitude_of_cut k s t u dropped up r some cut round result = record {
  parts = cut.parts;
  value =
      capped_cut (cut_units s (before_first is_point t) (after_first is_point t)) u k up r some cut.units result
      ∙ ap (λ x. min past (cut_units s (before_first is_point t) (after_first is_point t) * k + x)) (round ∙ ap (λ ds. rounded k (length ds) (digits_value 10 ds)) cut.dropped)
      ∙ ap (λ x. min past x) (sym (magnitude_cut k s (before_first is_point t) (after_first is_point t)));
}

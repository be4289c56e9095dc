-- What is printed of a number: it reads as that number, is exact, and no such text is shorter.
use Rattle.std.proofs.Common.{ℕ, zero, suc, ◌+◌, ◌-◌, ◌*◌, ◌/◌, ◌%◌, ◌^◌, ◌<◌, ◌≤◌, ◌≡◌, ◌∙◌, ◌++◌, ◌∷◌, [], List, ℤ, pos, negsuc, Ok, ap, sym, refl, length, drop, Bool, true, false, cond, eqb, leb, ltb, ◌&&◌, arith, inl, inr, decimal, min}
use Rattle.std.proofs.lemmas.Bool.Decides.{nat_tests}
use Rattle.std.proofs.lemmas.Int.{ints}
use Rattle.std.proofs.lemmas.Bool.{cases_lt, cases_order, and_parts, both_ways}
use Rattle.std.proofs.lemmas.List.{length-append}
use Rattle.std.proofs.lemmas.List.Folds.{list_all-append}
use Rattle.std.proofs.lemmas.Fmt.{decimal_is_IsNumeral, length-decimal-le}
use Rattle.std.proofs.lemmas.Nat.{div_below, mod_below, mul-le, div-add-mod', pow-add}
use Rattle.std.proofs.Math.Nat.{one-le-pow, pow-succ', pow-zero, le_refl}
use Rattle.std.proofs.lemmas.Str.Parse.{digit_from_value}
use Rattle.std.proofs.lemmas.Str.{digit_value_digit}
use Rattle.std.specs.List.{list_all, list_any, position_or_len, before_first, after_first}
use Rattle.std.specs.Char.{is_ascii_digit, digit_value}
use Rattle.std.specs.Str.Parse.{digits_value, digits_value_after, AllDigits}
use Rattle.fixedpoint.specs.Number.{number_of, magnitude, are_parts, is_number_text, whole_part, fraction_part, unsigned_text, is_negative, is_point, has_sign, IsInRange, most, signed}
use Rattle.fixedpoint.specs.NumberText.{number_text, plain_text, pointed, fraction_digits}
use Rattle.fixedpoint.proofs.Cutting.{parts_pointed, parts_plain}
use Rattle.fixedpoint.specs.Laws.{WritesExactly, IsShortest, digits_of_text}
use Rattle.std.proofs.lemmas.List.{length-take, length-drop}
use Rattle.std.proofs.lemmas.Int.Digits.{digits_value-lt}
use Rattle.fixedpoint.proofs.Decimal.{magnitude_exact, value_after_append, value_after_is, AllDigits-from_test}
use Rattle.fixedpoint.proofs.NumberLemmas.{number_is}
use Rattle.fixedpoint.proofs.Fraction.{fraction_step}

next_digit : (r p : ℕ) → r < p → r * 10 / p < 10
next_digit r p h = div_below (r * 10) p 10 (omega arith) (omega arith)

-- the fraction's digits are digits, and at most so many
fraction_digit : (k p r : ℕ) → r < p → list_all is_ascii_digit (fraction_digits k p r) ≡ true
unfolding fraction_digits
fraction_digit zero p r h = refl
fraction_digit (suc k) p r h =
    elim (cases_lt 0 r) [
      | inl lt ↦
          let no : eqb r 0 ≡ false = grind (arith, nat_tests) in
          let d : r * 10 / p < 10 = next_digit r p h in
          let digit : is_ascii_digit (48 + r * 10 / p) ≡ true = grind (arith, nat_tests) in
          rw (no, digit) (fraction_digit k p (r * 10 % p) (omega arith))
      | inr ge ↦ let yes : eqb r 0 ≡ true = grind (arith, nat_tests) in rw yes refl
    ]

fraction_short : (k p r : ℕ) → length (fraction_digits k p r) ≤ k
unfolding fraction_digits
fraction_short zero p r = omega arith
fraction_short (suc k) p r =
    elim (cases_lt 0 r) [
      | inl lt ↦ let no : eqb r 0 ≡ false = grind (arith, nat_tests) in rw no (omega (arith, fraction_short k p (r * 10 % p)))
      | inr ge ↦ let yes : eqb r 0 ≡ true = grind (arith, nat_tests) in rw yes (omega arith)
    ]

no_quotient : (p q r : ℕ) → r < p → q * p ≡ r → q ≡ 0
no_quotient p q r h e =
    elim (cases_lt 0 q) [
      | inl lt ↦ let a : 1 * p ≤ q * p = mul-le 1 p q p lt (le_refl p) in absurd (omega arith)
      | inr ge ↦ omega arith
    ]

-- one digit of the long division: the quotient is d * w and what r' gives
one_digit : (p q r d r' w : ℕ) → 0 < p → r * 10 ≡ d * p + r' → r * (10 * w) ≡ q * p → (q' : ℕ) × (q ≡ d * w + q') × (r' * w ≡ q' * p)
one_digit p q r d r' w positive e f =
    let times : (r * 10) * w ≡ (d * p + r') * w = ap (λ x. x * w) e in
    let whole : q * p ≡ (d * w) * p + r' * w = omega arith in
    elim (cases_lt q (d * w)) [
      | inl lt ↦ let a : (q + 1) * p ≤ (d * w) * p = mul-le (q + 1) p (d * w) p (omega arith) (le_refl p) in absurd (omega arith)
      | inr ge ↦
          let q' : ℕ = q - d * w in
          let same : q ≡ d * w + q' = omega arith in
          let both : (d * w + q') * p ≡ (d * w) * p + r' * w = ap (λ x. x * p) (sym same) ∙ whole in
          (q', same, omega arith)
    ]

digit_back : (d : ℕ) → d < 10 → digit_value (48 + d) ≡ d
digit_back d h = omega (arith, digit_value_digit (48 + d) (omega arith, omega arith))

-- read behind v they are worth what r / p is, where p divides r * 10 ^ k
fraction_value : (k p r v q : ℕ) → r < p → r * 10 ^ k ≡ q * p → digits_value_after 10 v (fraction_digits k p r) * 10 ^ (k - length (fraction_digits k p r)) ≡ v * 10 ^ k + q
unfolding fraction_digits
fraction_value zero p r v q h e =
    let z : q ≡ 0 = no_quotient p q r h (omega (arith, pow-zero 10)) in
    omega (arith, pow-zero 10)
fraction_value (suc k) p r v q h e =
    let power : 10 ^ suc k ≡ 10 * 10 ^ k = pow-succ' 10 k in
    elim (cases_lt 0 r) [
      | inl lt ↦
          let no : eqb r 0 ≡ false = grind (arith, nat_tests) in
          let d : ℕ = r * 10 / p in
          let r' : ℕ = r * 10 % p in
          let split : r * 10 ≡ d * p + r' = sym (div-add-mod' (r * 10) p) in
          let f : r * (10 * 10 ^ k) ≡ q * p = ap (λ x. r * x) (sym power) ∙ e in
          let next = one_digit p q r (r * 10 / p) (r * 10 % p) (10 ^ k) (omega arith) split f in
          let code = digit_back (r * 10 / p) (next_digit r p h) in
          let below : r * 10 % p < p = omega arith in
          let rest = fraction_value k p (r * 10 % p) (v * 10 + r * 10 / p) next.0 below next.2 in
          let len : suc k - suc (length (fraction_digits k p (r * 10 % p))) ≡ k - length (fraction_digits k p (r * 10 % p)) = omega arith in
          let fd : List ℕ = fraction_digits k p (r * 10 % p) in
          let scaled : v * 10 ^ suc k ≡ v * (10 * 10 ^ k) = ap (λ x. v * x) power in
          let last : (v * 10 + r * 10 / p) * 10 ^ k + next.0 ≡ v * 10 ^ suc k + q = omega (arith, next.1) in
          ap (λ ds. digits_value_after 10 v ds * 10 ^ (suc k - length ds)) (fraction_step k p r lt)
          ∙ ap (λ x. digits_value_after 10 (v * 10 + x) (fraction_digits k p (r * 10 % p)) * 10 ^ (suc k - suc (length (fraction_digits k p (r * 10 % p))))) code
          ∙ ap (λ j. digits_value_after 10 (v * 10 + r * 10 / p) (fraction_digits k p (r * 10 % p)) * 10 ^ j) len ∙ rest ∙ last
      | inr ge ↦
          let yes : eqb r 0 ≡ true = grind (arith, nat_tests) in
          let zero_r : r ≡ 0 = omega arith in
          let z : q ≡ 0 = no_quotient p q 0 (omega arith) (let nothing : r * 10 ^ suc k ≡ 0 * 10 ^ suc k = ap (λ x. x * 10 ^ suc k) zero_r in omega arith) in
          let len : suc k - 0 ≡ suc k = omega arith in
          rw (yes, len) (omega arith)
    ]

none_of_zero : (k p : ℕ) → fraction_digits k p 0 ≡ []
unfolding fraction_digits
none_of_zero zero p = refl
none_of_zero (suc k) p = refl

-- the parts of a plain text
parts_of_plain : (ds : List ℕ) (s p r : ℕ) → list_all is_ascii_digit ds ≡ true → (before_first is_point (ds ++ pointed s p r) ≡ ds) × (after_first is_point (ds ++ pointed s p r) ≡ fraction_digits s p r)
parts_of_plain ds s p r h =
    elim (cases_lt 0 r) [
      | inl lt ↦ let no : eqb r 0 ≡ false = grind (arith, nat_tests) in rw no (parts_pointed ds (fraction_digits s p r) h)
      | inr ge ↦
          let z : r ≡ 0 = omega arith in
          let parts = parts_plain ds h in
          rw z (parts.0, parts.1 ∙ sym (none_of_zero s p))
    ]

test_from_AllDigits : (ds : List ℕ) → AllDigits 10 ds → list_all is_ascii_digit ds ≡ true
test_from_AllDigits [] h = refl
test_from_AllDigits (d ∷ ds) h =
    let range = digit_from_value d h.0 in
    let yes : is_ascii_digit d ≡ true = grind (arith, nat_tests, range) in
    rw yes (test_from_AllDigits ds h.1)

both : (a b : Bool) → a ≡ true → b ≡ true → (a && b) ≡ true
both a b e f = rw (e, f) refl

some_length : (xs ys : List ℕ) → 0 < length xs → ltb 0 (length (xs ++ ys)) ≡ true
some_length xs ys h = let l = length-append xs ys in let lt : 0 < length (xs ++ ys) = omega arith in grind (arith, nat_tests)

pointed_short : (s p r : ℕ) → length (pointed s p r) ≤ s + 1
pointed_short s p r =
    elim (cases_lt 0 r) [
      | inl lt ↦ let no : eqb r 0 ≡ false = grind (arith, nat_tests) in rw no (omega (arith, fraction_short s p r))
      | inr ge ↦ let yes : eqb r 0 ≡ true = grind (arith, nat_tests) in rw yes (omega arith)
    ]

-- the parts of a text whose unsigned text is printed
record Printed (s n : ℕ) (t : List ℕ) : Type 0 where
  whole : whole_part t ≡ decimal (n / 10 ^ s)
  fraction : fraction_part t ≡ fraction_digits s (10 ^ s) (n % 10 ^ s)
  before : 0 < length (whole_part t)
  few : length (fraction_part t) ≤ s
  parts : are_parts (whole_part t) (fraction_part t) ≡ true
  value : digits_of_text t * 10 ^ (s - length (fraction_part t)) ≡ n

whole_small : (s n : ℕ) → n ≤ most → n / 10 ^ s ≤ most
whole_small s n h =
    let pos_p = one-le-pow s 10 (omega arith) in
    let split : n / 10 ^ s * 10 ^ s + n % 10 ^ s ≡ n = div-add-mod' n (10 ^ s) in
    let a_le : n / 10 ^ s * 1 ≤ n / 10 ^ s * 10 ^ s = mul-le (n / 10 ^ s) 1 (n / 10 ^ s) (10 ^ s) (le_refl (n / 10 ^ s)) pos_p in
    omega arith

printed : (s n : ℕ) (t : List ℕ) → n ≤ most → unsigned_text t ≡ plain_text s n → Printed s n t
printed s n t h plain =
    let ds : List ℕ = decimal (n / 10 ^ s) in
    let fs : List ℕ = fraction_digits s (10 ^ s) (n % 10 ^ s) in
    let pos_p = one-le-pow s 10 (omega arith) in
    let split : n / 10 ^ s * 10 ^ s + n % 10 ^ s ≡ n = div-add-mod' n (10 ^ s) in
    let r_small : n % 10 ^ s < 10 ^ s = mod_below n (10 ^ s) (omega arith) in
    let small = whole_small s n h in
    let a_small : n / 10 ^ s < 2 ^ 64 = omega arith in
    let numeral = decimal_is_IsNumeral (n / 10 ^ s) a_small in
    let test = test_from_AllDigits ds numeral.0.1 in
    let parts = parts_of_plain ds s (10 ^ s) (n % 10 ^ s) test in
    let whole : whole_part t ≡ ds = ap (before_first is_point) plain ∙ parts.0 in
    let fraction : fraction_part t ≡ fs = ap (after_first is_point) plain ∙ parts.1 in
    let digits = list_all-append is_ascii_digit ds fs ∙ both _ _ test (fraction_digit s (10 ^ s) (n % 10 ^ s) r_small) in
    let value : digits_value 10 (ds ++ fs) * 10 ^ (s - length fs) ≡ n =
    ap (λ v. v * 10 ^ (s - length fs)) (value_after_append 0 ds fs) ∙ ap (λ v. digits_value_after 10 v fs * 10 ^ (s - length fs)) numeral.1
    ∙ fraction_value s (10 ^ s) (n % 10 ^ s) (n / 10 ^ s) (n % 10 ^ s) r_small refl ∙ split in
    record {
      whole = whole;
      fraction = fraction;
      before = rw whole numeral.0.0;
      few = rw fraction (fraction_short s (10 ^ s) (n % 10 ^ s));
      parts = rw (whole, fraction) (both _ _ digits (some_length ds fs numeral.0.0));
      value = rw (whole, fraction) value;
    }

-- a text of these parts reads as the number
reads : (s n : ℕ) (t : List ℕ) → n ≤ most → Printed s n t → length t ≤ 40 → number_of (10 ^ s) t ≡ Ok (signed (is_negative t) n)
reads s n t h is short =
    let exact : magnitude (10 ^ s) (whole_part t) (fraction_part t) ≡ n =
    magnitude_exact s (whole_part t) (fraction_part t) is.few
    ∙ ap (λ v. v * 10 ^ (s - length (fraction_part t))) (sym (value_after_append 0 (whole_part t) (fraction_part t))) ∙ is.value in
    number_is (10 ^ s) t n short (record { parts = is.parts; value = ap (min 1000000000000001) (sym exact) }) h

no_sign : (ds rest : List ℕ) → 0 < length ds → AllDigits 10 ds → (has_sign (ds ++ rest) ≡ false) × (is_negative (ds ++ rest) ≡ false)
no_sign [] rest h d = absurd (omega arith)
no_sign (c ∷ cs) rest h d = let range = digit_from_value c d.0 in (grind (arith, nat_tests, range), grind (arith, nat_tests, range))

plain_short : (s n : ℕ) → s ≤ 7 → n ≤ most → (length (plain_text s n) ≤ 30) × (has_sign (plain_text s n) ≡ false) × (is_negative (plain_text s n) ≡ false)
plain_short s n high h =
    let small = whole_small s n h in
    let a_small : n / 10 ^ s < 2 ^ 64 = omega arith in
    let numeral = decimal_is_IsNumeral (n / 10 ^ s) a_small in
    let len = length-decimal-le 16 (n / 10 ^ s) (omega arith) (omega arith) a_small in
    let tail : length (pointed s (10 ^ s) (n % 10 ^ s)) ≤ s + 1 = pointed_short s (10 ^ s) (n % 10 ^ s) in
    let signs = no_sign (decimal (n / 10 ^ s)) (pointed s (10 ^ s) (n % 10 ^ s)) numeral.0.0 numeral.0.1 in
    (omega (arith, length-append (decimal (n / 10 ^ s)) (pointed s (10 ^ s) (n % 10 ^ s))), signs.0, signs.1)

unsigned_plain : (s n : ℕ) → s ≤ 7 → n ≤ most → unsigned_text (plain_text s n) ≡ plain_text s n
unsigned_plain s n high h = ap (λ b. cond b (drop 1 (plain_text s n)) (plain_text s n)) (plain_short s n high h).1

-- a printed number reads as that number
pub reads_back : (s : ℕ) (z : ℤ) → s ≤ 7 → IsInRange z → number_of (10 ^ s) (number_text s z) ≡ Ok z
reads_back s (pos n) high h =
    let facts = plain_short s n high h in
    reads s n (plain_text s n) h (printed s n (plain_text s n) h (unsigned_plain s n high h)) (omega arith) ∙ ap (λ b. Ok (signed b n)) facts.2
reads_back s (negsuc k) high h =
    let facts = plain_short s (suc k) high h in
    reads s (suc k) (45 ∷ plain_text s (suc k)) h (printed s (suc k) (45 ∷ plain_text s (suc k)) h refl) (omega arith)

-- exactly that number, with nothing rounded
exact_value : (s n : ℕ) (t : List ℕ) → Printed s n t → digits_of_text t * 10 ^ s ≡ n * 10 ^ length (fraction_part t)
exact_value s n t is =
    let k : ℕ = s - length (fraction_part t) in
    let sum : s ≡ k + length (fraction_part t) = omega (arith, is.few) in
    let power : 10 ^ s ≡ 10 ^ k * 10 ^ length (fraction_part t) = ap (λ x. 10 ^ x) sum ∙ pow-add 10 k (length (fraction_part t)) in
    let value : digits_of_text t * 10 ^ k ≡ n = is.value in
    rw (power, ← value) (omega arith)

no_point_in : (ds : List ℕ) → list_all is_ascii_digit ds ≡ true → list_any is_point (ds ++ []) ≡ false
no_point_in [] h = refl
no_point_in (d ∷ ds) h =
    let parts = and_parts (is_ascii_digit d) (list_all is_ascii_digit ds) h in
    let digit = parts.0 in
    let no : is_point d ≡ false = grind (arith, nat_tests) in
    rw no (no_point_in ds parts.1)

-- digits stand behind a point
plain_behind : (s n : ℕ) → 1 ≤ s → n ≤ most → list_any is_point (plain_text s n) ≡ true → 0 < length (fraction_digits s (10 ^ s) (n % 10 ^ s))
plain_behind zero n low h e = absurd (omega arith)
plain_behind (suc k) n low h e =
    elim (cases_lt 0 (n % 10 ^ suc k)) [
      | inl lt ↦ let step = ap length (fraction_step k (10 ^ suc k) (n % 10 ^ suc k) lt) in omega arith
      | inr ge ↦
          let z : n % 10 ^ suc k ≡ 0 = omega arith in
          let small = whole_small (suc k) n h in
          let a_small : n / 10 ^ suc k < 2 ^ 64 = omega arith in
          let numeral = decimal_is_IsNumeral (n / 10 ^ suc k) a_small in
          let none = no_point_in (decimal (n / 10 ^ suc k)) (test_from_AllDigits _ numeral.0.1) in
          let same : plain_text (suc k) n ≡ decimal (n / 10 ^ suc k) ++ [] = ap (λ r. decimal (n / 10 ^ suc k) ++ pointed (suc k) (10 ^ suc k) r) z in
          absurd (both_ways (list_any is_point (plain_text (suc k) n)) (ap (list_any is_point) same ∙ none) e)
    ]

number_text_shape : (t : List ℕ) → length t ≤ 40 → are_parts (whole_part t) (fraction_part t) ≡ true → is_number_text t ≡ true
number_text_shape t short parts = let yes : leb (length t) 40 ≡ true = grind (arith, nat_tests) in both _ _ yes parts

-- what is printed writes the number exactly
pub writes_exactly : (s : ℕ) (z : ℤ) → 1 ≤ s → s ≤ 7 → IsInRange z → WritesExactly s z (number_text s z)
writes_exactly s (pos n) low high h =
    let t : List ℕ = plain_text s n in
    let facts = plain_short s n high h in
    let is = printed s n (plain_text s n) h (unsigned_plain s n high h) in
    record {
      shape = number_text_shape (plain_text s n) (omega arith) is.parts;
      value = exact_value s n (plain_text s n) is;
      sign = (λ e. absurd (both_ways (is_negative (plain_text s n)) facts.2 e), λ e. absurd (omega (arith, ints)));
      before = is.before;
      behind = λ e. rw is.fraction (plain_behind s n low h e);
    }
writes_exactly s (negsuc k) low high h =
    let facts = plain_short s (suc k) high h in
    let is = printed s (suc k) (45 ∷ plain_text s (suc k)) h refl in
    record {
      shape = number_text_shape (45 ∷ plain_text s (suc k)) (omega arith) is.parts;
      value = exact_value s (suc k) (45 ∷ plain_text s (suc k)) is;
      sign = (λ e. omega (arith, ints), λ e. refl);
      before = is.before;
      behind = λ e. rw is.fraction (plain_behind s (suc k) low h e);
    }

-- the digits of r / p are no more than those of any fraction v / 10 ^ f with that value
fraction_least : (k p r v f : ℕ) → r < p → v * p ≡ r * 10 ^ f → length (fraction_digits k p r) ≤ f
unfolding fraction_digits
fraction_least zero p r v f h e = omega arith
fraction_least (suc k) p r v zero h e =
    let z : v ≡ 0 = no_quotient p v r h (omega (arith, pow-zero 10)) in
    let vp : v * p ≡ 0 * p = ap (λ x. x * p) z in
    let none : r ≡ 0 = omega (arith, pow-zero 10) in
    let yes : eqb r 0 ≡ true = grind (arith, nat_tests) in
    rw yes (omega arith)
fraction_least (suc k) p r v (suc f) h e =
    elim (cases_lt 0 r) [
      | inl lt ↦
          let no : eqb r 0 ≡ false = grind (arith, nat_tests) in
          let split : r * 10 ≡ r * 10 / p * p + r * 10 % p = sym (div-add-mod' (r * 10) p) in
          let power : 10 ^ suc f ≡ 10 * 10 ^ f = pow-succ' 10 f in
          let turned : r * (10 * 10 ^ f) ≡ v * p = ap (λ x. r * x) (sym power) ∙ sym e in
          let next = one_digit p v r (r * 10 / p) (r * 10 % p) (10 ^ f) (omega arith) split turned in
          let below : r * 10 % p < p = omega arith in
          let rest = fraction_least k p (r * 10 % p) next.0 f below (sym next.2) in
          rw no (omega arith)
      | inr ge ↦ let yes : eqb r 0 ≡ true = grind (arith, nat_tests) in rw yes (omega arith)
    ]

-- a greater whole makes a greater number
greater_whole : (w v a r p q : ℕ) → v < q → 0 < p → w < a → (w * q + v) * p < (a * p + r) * q
greater_whole w v a r p q hv hp lt =
    let step : (w + 1) * q ≤ a * q = mul-le (w + 1) q a q (omega arith) (le_refl q) in
    let scaled : (w * q + v + 1) * p ≤ (a * q) * p = mul-le (w * q + v + 1) p (a * q) p (omega arith) (le_refl p) in
    omega arith

-- a rest has digits
fraction_some : (s r : ℕ) → 0 < r → r < 10 ^ s → 0 < length (fraction_digits s (10 ^ s) r)
fraction_some zero r h lt = absurd (omega (arith, pow-zero 10))
fraction_some (suc k) r h lt = let step = ap length (fraction_step k (10 ^ suc k) r h) in omega arith

-- whole and rest of two decimal fractions of one value are equal
same_whole : (w v a r p q : ℕ) → v < q → r < p → (w * q + v) * p ≡ (a * p + r) * q → (w ≡ a) × (v * p ≡ r * q)
same_whole w v a r p q hv hr e =
    elim (cases_order w a) [
      | inl same ↦ let f : (w * q) * p ≡ (a * q) * p = ap (λ x. x * q * p) same in (same, omega arith)
      | inr other ↦ elim other [
        | inl lt ↦ let more = greater_whole w v a r p q hv (omega arith) lt in absurd (omega arith)
        | inr gt ↦ let more = greater_whole a r w v q p hr (omega arith) gt in absurd (omega arith)
      ]
    ]

-- the lengths of the parts of an unsigned text
parts_length : (u : List ℕ) → (length (before_first is_point u) ≤ length u) × (0 < length (after_first is_point u) → length (before_first is_point u) + 1 + length (after_first is_point u) ≡ length u)
parts_length u =
    let at : ℕ = position_or_len is_point u in
    let front = length-take (position_or_len is_point u) u in
    let back = length-drop (position_or_len is_point u + 1) u in
    (omega arith, λ some. omega arith)

-- a text that writes the number exactly has no fewer bytes behind its sign
no_shorter : (s n : ℕ) (u w f : List ℕ) → n ≤ most → w ≡ before_first is_point u → f ≡ after_first is_point u → list_all is_ascii_digit (w ++ f) ≡ true → 0 < length w
    → digits_value 10 (w ++ f) * 10 ^ s ≡ n * 10 ^ length f → length (plain_text s n) ≤ length u
no_shorter s n u w f h ew ef digits some value =
    let pos_s = one-le-pow s 10 (omega arith) in
    let tests = and_parts (list_all is_ascii_digit w) (list_all is_ascii_digit f) (sym (list_all-append is_ascii_digit w f) ∙ digits) in
    let split : n / 10 ^ s * 10 ^ s + n % 10 ^ s ≡ n = div-add-mod' n (10 ^ s) in
    let r_small : n % 10 ^ s < 10 ^ s = mod_below n (10 ^ s) (omega arith) in
    let v_small : digits_value 10 f < 10 ^ length f = digits_value-lt 10 f (AllDigits-from_test f tests.1) in
    let joined : digits_value 10 (w ++ f) ≡ digits_value 10 w * 10 ^ length f + digits_value 10 f = value_after_append 0 w f ∙ value_after_is (digits_value 10 w) f in
    let equation : (digits_value 10 w * 10 ^ length f + digits_value 10 f) * 10 ^ s ≡ (n / 10 ^ s * 10 ^ s + n % 10 ^ s) * 10 ^ length f =
    ap (λ x. x * 10 ^ s) (sym joined) ∙ value ∙ ap (λ x. x * 10 ^ length f) (sym split) in
    let same = same_whole (digits_value 10 w) (digits_value 10 f) (n / 10 ^ s) (n % 10 ^ s) (10 ^ s) (10 ^ length f) v_small r_small equation in
    let few = fraction_least s (10 ^ s) (n % 10 ^ s) (digits_value 10 f) (length f) r_small same.1 in
    let w_small : digits_value 10 w < 10 ^ length w = digits_value-lt 10 w (AllDigits-from_test w tests.0) in
    let small = whole_small s n h in
    let short : length (decimal (n / 10 ^ s)) ≤ length w = length-decimal-le (length w) (n / 10 ^ s) some (omega (arith, same.0)) (omega arith) in
    let lengths = parts_length u in
    let lw = ap length ew in
    let lf = ap length ef in
    let total = length-append (decimal (n / 10 ^ s)) (pointed s (10 ^ s) (n % 10 ^ s)) in
    elim (cases_lt 0 (n % 10 ^ s)) [
      | inl lt ↦
          let no : eqb (n % 10 ^ s) 0 ≡ false = grind (arith, nat_tests) in
          let tail : length (pointed s (10 ^ s) (n % 10 ^ s)) ≡ 1 + length (fraction_digits s (10 ^ s) (n % 10 ^ s)) = rw no (omega arith) in
          let behind : 0 < length f = omega (arith, fraction_some s (n % 10 ^ s) lt r_small) in
          omega (arith, lengths.1 (omega arith))
      | inr ge ↦
          let yes : eqb (n % 10 ^ s) 0 ≡ true = grind (arith, nat_tests) in
          let tail : length (pointed s (10 ^ s) (n % 10 ^ s)) ≡ 0 = rw yes refl in
          omega arith
    ]

sign_length : (t : List ℕ) → (length (unsigned_text t) ≤ length t) × (is_negative t ≡ true → length t ≡ length (unsigned_text t) + 1)
sign_length [] = (omega arith, λ e. absurd (cc))
sign_length (c ∷ cs) =
    elim (has_sign (c ∷ cs)) as (λ b. (is_negative (c ∷ cs) ≡ true → b ≡ true) → (length (cond b cs (c ∷ cs)) ≤ suc (length cs)) × (is_negative (c ∷ cs) ≡ true → suc (length cs) ≡ length (cond b cs (c ∷ cs)) + 1)) [
      | true ↦ λ h. (omega arith, λ e. omega arith)
      | false ↦ λ h. (omega arith, λ e. let no : false ≡ true = h e in absurd (cc))
    ] (λ e. grind (arith, nat_tests))

-- no text that writes the number exactly is shorter than what is printed
pub printed_shortest : (s : ℕ) (z : ℤ) → IsInRange z → IsShortest s z (number_text s z)
printed_shortest s (pos n) h other exact =
    let parts = and_parts (leb (length other) 40) (are_parts (whole_part other) (fraction_part other)) exact.shape in
    let digits = and_parts (list_all is_ascii_digit (whole_part other ++ fraction_part other)) _ parts.1 in
    let sign = sign_length other in
    omega (arith, no_shorter s n (unsigned_text other) (whole_part other) (fraction_part other) h refl refl digits.0 exact.before exact.value)
printed_shortest s (negsuc k) h other exact =
    let parts = and_parts (leb (length other) 40) (are_parts (whole_part other) (fraction_part other)) exact.shape in
    let digits = and_parts (list_all is_ascii_digit (whole_part other ++ fraction_part other)) _ parts.1 in
    let negative : is_negative other ≡ true = exact.sign.1 (omega (arith, ints)) in
    let sign = (sign_length other).1 negative in
    omega (arith, no_shorter s (suc k) (unsigned_text other) (whole_part other) (fraction_part other) h refl refl digits.0 exact.before exact.value)

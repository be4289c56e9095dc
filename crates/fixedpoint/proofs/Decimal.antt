-- Digits read from the left, and the rounding of a decimal fraction.
use Rattle.std.proofs.Common.{inl, inr, ℕ, suc, ◌+◌, ◌-◌, ◌*◌, ◌/◌, ◌^◌, ◌<◌, ◌≤◌, ◌≡◌, min, true, false, cond, List, [], ◌∷◌, ◌++◌, length, take, drop, get_or, refl, sym, ap, ◌∙◌, arith, leb}
use Rattle.std.specs.List.{list_all}
use Rattle.std.specs.Char.{is_ascii_digit, digit_value}
use Rattle.std.specs.Str.Parse.{digits_value, digits_value_after, AllDigits}
use Rattle.std.specs.Int.{IsInRange}
use Rattle.std.proofs.lemmas.Bool.Decides.{nat_tests}
use Rattle.std.proofs.lemmas.Str.{digit_value_digit}
use Rattle.std.proofs.lemmas.Nat.{div-mul-add, div_below, pow-add, mul-le}
use Rattle.std.proofs.lemmas.Str.Parse.{digit_at}
use Rattle.std.proofs.lemmas.List.{take_more}
use Rattle.std.proofs.Math.Nat.{pow-zero, pow-suc, le_refl, min-eq_right, one-le-pow, pow-succ', pow-le-pow_right, mul-div-mul_left, add-mul-div_right}
use Rattle.std.proofs.lemmas.Bool.{cases_lt, and_parts}
use Rattle.std.proofs.lemmas.List.{length-drop, take-append-drop, length-take-le, take_all, drop_all}
use Rattle.std.proofs.lemmas.List.Folds.{list_all-append}
use Rattle.std.proofs.lemmas.Int.Digits.{digits_value-lt}
use Rattle.fixedpoint.specs.Number.{rounded, magnitude}
use Rattle.fixedpoint.specs.Steps.{cut_units}

-- a test of digits says so of each
pub AllDigits-from_test : (ds : List ℕ) → list_all is_ascii_digit ds ≡ true → AllDigits 10 ds
AllDigits-from_test [] h = tt
AllDigits-from_test (c ∷ cs) h = grind (arith, nat_tests, AllDigits-from_test cs)

-- more digits behind those that were read
pub value_after_append : (n : ℕ) (xs ys : List ℕ) → digits_value_after 10 n (xs ++ ys) ≡ digits_value_after 10 (digits_value_after 10 n xs) ys
value_after_append n [] ys = refl
value_after_append n (x ∷ xs) ys = value_after_append (n * 10 + digit_value x) xs ys

-- the number in front is moved to the left by the digits
pub value_after_is : (n : ℕ) (ds : List ℕ) → digits_value_after 10 n ds ≡ n * 10 ^ length ds + digits_value 10 ds
value_after_is n [] = omega (arith, pow-zero 10)
value_after_is n (d ∷ ds) =
    let one = value_after_is (n * 10 + digit_value d) ds in
    let two = value_after_is (0 + digit_value d) ds in
    let three : 10 ^ suc (length ds) ≡ 10 ^ length ds * 10 = pow-suc 10 (length ds) in
    rw (one, two, three) (omega arith)

pub value_after_more : (n : ℕ) (bs : List ℕ) (i : ℕ) → i < length bs → digits_value_after 10 n (take (i + 1) bs) ≡ digits_value_after 10 n (take i bs) * 10 + digit_value (get_or bs i 0)
value_after_more n bs i h = rw (take_more bs i 0 h, value_after_append n (take i bs) (get_or bs i 0 ∷ [])) refl

-- the digit at a place, of a text that passes the test
pub digit_in : (ds : List ℕ) (i : ℕ) → list_all is_ascii_digit ds ≡ true → i < length ds → IsInRange 48 57 (get_or ds i 0)
digit_in ds i h lt = digit_at ds i (AllDigits-from_test ds h) lt

-- what the test of a digit says
pub digit_range : (c : ℕ) → is_ascii_digit c ≡ true → IsInRange 48 57 c
digit_range c h = (grind (arith, nat_tests), grind (arith, nat_tests))

-- one more digit is a digit more
pub digits_more : (bs : List ℕ) (i : ℕ) → i < length bs → list_all is_ascii_digit (take i bs) ≡ true → is_ascii_digit (get_or bs i 0) ≡ true → list_all is_ascii_digit (take (i + 1) bs) ≡ true
digits_more bs i h all one = rw (take_more bs i 0 h, list_all-append is_ascii_digit (take i bs) (get_or bs i 0 ∷ []), all, one) refl

-- the capped number after one more digit
pub capped_more : (n : ℕ) (bs : List ℕ) (i v : ℕ) → i < length bs → is_ascii_digit (get_or bs i 0) ≡ true → v ≡ min 1000000000000001 (digits_value_after 10 n (take i bs)) → min (v * 10 + (get_or bs i 0 - 48)) 1000000000000001 ≡ min 1000000000000001 (digits_value_after 10 n (take (i + 1) bs))
capped_more n bs i v lt h e =
    let more = value_after_more n bs i lt in
    let range = digit_range (get_or bs i 0) h in
    let same = digit_value_digit (get_or bs i 0) range in
    rw more (omega arith)

-- short fractions are exact
pub rounded_exact : (n k p : ℕ) → 0 < p → (2 * (n * (k * p)) + p) / (2 * p) ≡ n * k
rounded_exact n k p h =
    let small : p < 2 * p = omega arith in
    let same : 2 * (n * (k * p)) + p ≡ (n * k) * (2 * p) + p = grind arith in
    rw same (div-mul-add (n * k) (2 * p) p small)

-- a digit below 5 is dropped
rounded_down : (q d r : ℕ) → d < 5 → r < q → (2 * ((d * q + r) * 1) + 10 * q) / (2 * (10 * q)) ≡ 0
rounded_down q d r hd hr =
    let dq : d * q ≤ 4 * q = mul-le d q 4 q (omega arith) (le_refl q) in
    let small : 2 * (d * q + r) + 10 * q < 2 * (10 * q) = omega arith in
    let same : 2 * ((d * q + r) * 1) + 10 * q ≡ 0 * (2 * (10 * q)) + (2 * (d * q + r) + 10 * q) = omega arith in
    rw same (div-mul-add 0 (2 * (10 * q)) _ small)

rounded_up : (q d r : ℕ) → 5 ≤ d → d < 10 → r < q → (2 * ((d * q + r) * 1) + 10 * q) / (2 * (10 * q)) ≡ 1
rounded_up q d r hd hd' hr =
    let dq : d * q ≤ 9 * q = mul-le d q 9 q (omega arith) (le_refl q) in
    let dq' : 5 * q ≤ d * q = mul-le 5 q d q hd (le_refl q) in
    let rest : ℕ = 2 * (d * q + r) - 10 * q in
    let small : rest < 2 * (10 * q) = omega arith in
    let same : 2 * ((d * q + r) * 1) + 10 * q ≡ 1 * (2 * (10 * q)) + rest = omega arith in
    rw same (div-mul-add 1 (2 * (10 * q)) _ small)

-- of digits behind a cut the first decides, where 1 in front of it is one unit
rounded_first : (ds : List ℕ) → 0 < length ds → list_all is_ascii_digit ds ≡ true → rounded 1 (length ds) (digits_value 10 ds) ≡ cond (leb 53 (get_or ds 0 0)) 1 0
rounded_first [] h test = absurd (omega arith)
rounded_first (c ∷ cs) h test =
    let parts = and_parts (is_ascii_digit c) (list_all is_ascii_digit cs) test in
    let range = digit_range c parts.0 in
    let d : ℕ = digit_value c in
    let code : digit_value c + 48 ≡ c = digit_value_digit c range in
    let below : digits_value 10 cs < 10 ^ length cs = digits_value-lt 10 cs (AllDigits-from_test cs parts.1) in
    let value : digits_value 10 (c ∷ cs) ≡ digit_value c * 10 ^ length cs + digits_value 10 cs = value_after_is (0 + digit_value c) cs ∙ ap (λ x. x * 10 ^ length cs + digits_value 10 cs) (let q : 0 + digit_value c ≡ digit_value c = omega arith in q) in
    let power : 10 ^ suc (length cs) ≡ 10 * 10 ^ length cs = pow-succ' 10 (length cs) in
    elim (cases_lt (digit_value c) 5) [
      | inl lt ↦
          let no : leb 53 c ≡ false = grind (arith, nat_tests) in
          rw (value, power, no) (rounded_down (10 ^ length cs) (digit_value c) (digits_value 10 cs) lt below)
      | inr ge ↦
          let yes : leb 53 c ≡ true = grind (arith, nat_tests) in
          rw (value, power, yes) (rounded_up (10 ^ length cs) (digit_value c) (digits_value 10 cs) ge (omega (arith, range)) below)
    ]

pub first_decides : (ds : List ℕ) (k up : ℕ) → k ≡ 1 → 0 < length ds → list_all is_ascii_digit ds ≡ true → up ≡ cond (leb 53 (get_or ds 0 0)) 1 0 → up ≡ rounded k (length ds) (digits_value 10 ds)
first_decides ds k up one some test e = rw (one, e) (sym (rounded_first ds some test))

-- nothing behind a cut is no unit
pub rounded_none : (k : ℕ) → rounded k 0 0 ≡ 0
rounded_none k = let zero : 2 * (0 * k) + 1 ≡ 1 = omega arith in ap (λ x. x / 2) zero

-- at most the units of 1
pub rounded_few : (k l t : ℕ) → t < 10 ^ l → rounded k l t ≤ k
rounded_few k l t h =
    let some = one-le-pow l 10 (omega arith) in
    let le : t * k ≤ 10 ^ l * k = mul-le t k (10 ^ l) k (omega arith) (le_refl k) in
    let below = div_below (2 * (t * k) + 10 ^ l) (2 * 10 ^ l) (k + 1) (omega arith) (omega arith) in
    omega arith

-- what stands in front of a cut counts whole
rounded_behind : (a t k s l : ℕ) → 0 < s → 0 < l → (2 * ((a * l + t) * (k * s)) + s * l) / (2 * (s * l)) ≡ a * k + (2 * (t * k) + l) / (2 * l)
rounded_behind a t k s l hs hl =
    let top : 2 * ((a * l + t) * (k * s)) + s * l ≡ s * (2 * (t * k) + l + (a * k) * (2 * l)) = grind arith in
    let bottom : 2 * (s * l) ≡ s * (2 * l) = omega arith in
    rw (top, bottom, mul-div-mul_left {m = s} (2 * (t * k) + l + (a * k) * (2 * l)) (2 * l) hs, add-mul-div_right (2 * (t * k) + l) (a * k) {z = 2 * l} (omega arith)) (omega arith)

abbrev pub past : ℕ
past = 1000000000000001

pub capped_times : (v k : ℕ) → 1 ≤ k → min past (min (min past v * k) 18446744073709551615) ≡ min past (v * k)
capped_times v k h =
    elim (cases_lt past v) [
      | inr le ↦ rw (min-eq_right {n = v} {m = past} le) (omega arith)
      | inl lt ↦
          let low : past * 1 ≤ past * k = mul-le past 1 past k (le_refl past) h in
          let high : past * 1 ≤ v * k = mul-le past 1 v k (omega arith) h in
          let same : min past v ≡ past = omega arith in
          rw same (omega arith)
    ]

pub capped_after : (n : ℕ) (ds : List ℕ) → min past (digits_value_after 10 (min past n) ds) ≡ min past (digits_value_after 10 n ds)
capped_after n ds =
    elim (cases_lt past n) [
      | inr le ↦ rw (min-eq_right {n = n} {m = past} le) refl
      | inl lt ↦
          let k = one-le-pow (length ds) 10 (omega arith) in
          let low : past * 1 ≤ past * 10 ^ length ds = mul-le past 1 past (10 ^ length ds) (le_refl past) k in
          let high : past * 1 ≤ n * 10 ^ length ds = mul-le past 1 n (10 ^ length ds) (omega arith) k in
          let same : min past n ≡ past = omega arith in
          rw (same, value_after_is past ds, value_after_is n ds) (omega arith)
    ]

-- a fraction of at most s digits is exact
pub magnitude_exact : (s : ℕ) (whole fraction : List ℕ) → length fraction ≤ s → magnitude (10 ^ s) whole fraction ≡ digits_value_after 10 (digits_value 10 whole) fraction * 10 ^ (s - length fraction)
unfolding magnitude
magnitude_exact s whole fraction h =
    let f = length fraction in
    let k : ℕ = s - length fraction in
    let e : 10 ^ s ≡ 10 ^ k * 10 ^ length fraction = ap (λ x. 10 ^ x) (let q : s ≡ k + length fraction = omega arith in q) ∙ pow-add 10 k (length fraction) in
    rw (e, ← value_after_append 0 whole fraction) (rounded_exact (digits_value 10 (whole ++ fraction)) (10 ^ k) (10 ^ length fraction) (one-le-pow (length fraction) 10 (omega arith)))

-- a text is the units in front of a cut, and what is behind it rounded
pub magnitude_cut : (k s : ℕ) (whole fraction : List ℕ) → magnitude (k * 10 ^ s) whole fraction ≡ cut_units s whole fraction * k + rounded k (length (drop s fraction)) (digits_value 10 (drop s fraction))
unfolding magnitude
magnitude_cut k s whole fraction =
    let a : ℕ = digits_value_after 10 (digits_value 10 whole) (take s fraction) in
    let f : ℕ = length fraction in
    let l : ℕ = length (drop s fraction) in
    let t : ℕ = digits_value 10 (drop s fraction) in
    let len : length (drop s fraction) ≡ length fraction - s = length-drop s fraction in
    let value : digits_value 10 (whole ++ fraction) ≡ digits_value_after 10 (digits_value 10 whole) (take s fraction) * 10 ^ length (drop s fraction) + digits_value 10 (drop s fraction) =
    value_after_append 0 whole fraction ∙ ap (digits_value_after 10 (digits_value 10 whole)) (sym (take-append-drop s fraction))
    ∙ value_after_append (digits_value 10 whole) (take s fraction) (drop s fraction) ∙ value_after_is (digits_value_after 10 (digits_value 10 whole) (take s fraction)) (drop s fraction) in
    elim (cases_lt s (length fraction)) [
      | inl lt ↦
          let sum : length fraction ≡ s + length (drop s fraction) = omega arith in
          let power : 10 ^ length fraction ≡ 10 ^ s * 10 ^ length (drop s fraction) = ap (λ x. 10 ^ x) sum ∙ pow-add 10 s (length (drop s fraction)) in
          let none : s - length fraction ≡ 0 = omega arith in
          rw (value, power, none, rounded_behind a t k (10 ^ s) (10 ^ l) (one-le-pow s 10 (omega arith)) (one-le-pow l 10 (omega arith))) (omega arith)
      | inr ge ↦
          let sum : s ≡ s - length fraction + length fraction = omega arith in
          let power : 10 ^ s ≡ 10 ^ (s - length fraction) * 10 ^ length fraction = ap (λ x. 10 ^ x) sum ∙ pow-add 10 (s - length fraction) (length fraction) in
          let none : drop s fraction ≡ [] = drop_all s fraction ge in
          let front : take s fraction ≡ fraction = take_all s fraction ge in
          let j : ℕ = 10 ^ (s - length fraction) in
          let n : ℕ = digits_value_after 10 (digits_value 10 whole) fraction in
          let same : k * (10 ^ (s - length fraction) * 10 ^ length fraction) ≡ (k * j) * 10 ^ length fraction = grind arith in
          let exact = rounded_exact n (k * j) (10 ^ length fraction) (one-le-pow (length fraction) 10 (omega arith)) in
          let turned : n * (k * j) ≡ n * j * k + 0 = grind arith in
          rw (power, same, none, front, rounded_none k, value_after_append 0 whole fraction) (exact ∙ turned)
    ]

-- the units of a cut that stops at `past`, and those behind it
pub capped_cut : (a u k up r : ℕ) → 1 ≤ k → min past u ≡ min past a → r ≡ min (min (u * k) 18446744073709551615 + up) 18446744073709551615 → min past r ≡ min past (a * k + up)
capped_cut a u k up r h e f =
    elim (cases_lt a past) [
      | inl lt ↦ let same : u * k ≡ a * k = ap (λ x. x * k) (let q : u ≡ a = omega arith in q) in omega arith
      | inr ge ↦
          let one : past * 1 ≤ a * k = mul-le past 1 a k ge h in
          let two : past * 1 ≤ u * k = mul-le past 1 u k (omega arith) h in
          omega arith
    ]

-- what reading up to a cut does, in the numbers of its steps
pub units_cut : (s : ℕ) (whole fraction : List ℕ) (start value pow r : ℕ) → start ≡ min past (digits_value 10 whole) → value ≡ min past (digits_value_after 10 start (take s fraction))
    → pow ≡ 10 ^ (s - length fraction) → r ≡ min (value * pow) 18446744073709551615 → min past r ≡ min past (cut_units s whole fraction)
units_cut s whole fraction start value pow r e f g k =
    let v : value ≡ min past (digits_value_after 10 (digits_value 10 whole) (take s fraction)) = f ∙ ap (λ x. min past (digits_value_after 10 x (take s fraction))) e ∙ capped_after (digits_value 10 whole) (take s fraction) in
    rw (k, g, v) (capped_times (digits_value_after 10 (digits_value 10 whole) (take s fraction)) (10 ^ (s - length fraction)) (one-le-pow (s - length fraction) 10 (omega arith)))

-- the number of the digits up to the next one
pub next_value : (ds : List ℕ) (i v : ℕ) → list_all is_ascii_digit ds ≡ true → i < length ds → v ≡ digits_value 10 (take i ds) → v * 10 + (get_or ds i 0 - 48) ≡ digits_value 10 (take (i + 1) ds)
next_value ds i v test lt e =
    let more = value_after_more 0 ds i lt in
    let same = digit_value_digit (get_or ds i 0) (digit_in ds i test lt) in
    rw more (omega arith)

-- it stays below 10 ^ 36, where there are no more digits than that
pub next_small : (ds : List ℕ) (i v : ℕ) → list_all is_ascii_digit ds ≡ true → i < length ds → length ds ≤ 36 → v ≡ digits_value 10 (take i ds) → v * 10 + (get_or ds i 0 - 48) < 1000000000000000000000000000000000000
next_small ds i v test lt few e =
    let next = next_value ds i v test lt e in
    let parts = and_parts (list_all is_ascii_digit (take (i + 1) ds)) (list_all is_ascii_digit (drop (i + 1) ds)) (sym (list_all-append is_ascii_digit (take (i + 1) ds) (drop (i + 1) ds)) ∙ ap (list_all is_ascii_digit) (take-append-drop (i + 1) ds) ∙ test) in
    let below = digits_value-lt 10 (take (i + 1) ds) (AllDigits-from_test (take (i + 1) ds) parts.0) in
    let len = length-take-le (i + 1) ds (omega arith) in
    let high : 10 ^ length (take (i + 1) ds) ≤ 10 ^ 36 = pow-le-pow_right {n = 10} (omega arith) {i = length (take (i + 1) ds)} {j = 36} (omega arith) in
    omega arith

-- v of p parts of what is k units
pub record Behind (v p k : ℕ) : Type 0 where
  pub some : 0 < p
  pub power : p ≤ 1000000000000000000000000000000000000
  pub units : v * k ≤ 60000000000000000000000000000000000000
  pub few : (2 * (v * k) + p) / (2 * p) ≤ k

pub behind_cut : (ds : List ℕ) (v p k : ℕ) → list_all is_ascii_digit ds ≡ true → length ds ≤ 36 → k ≤ 60 → v ≡ digits_value 10 ds → p ≡ 10 ^ length ds → Behind v p k
behind_cut ds v p k test few most value parts =
    let below = digits_value-lt 10 ds (AllDigits-from_test ds test) in
    let power : 10 ^ length ds ≤ 10 ^ 36 = pow-le-pow_right {n = 10} (omega arith) {i = length ds} {j = 36} few in
    rw (value, parts) (record {
      some = one-le-pow (length ds) 10 (omega arith);
      power = power;
      units = mul-le (digits_value 10 ds) k (10 ^ 36) 60 (omega arith) most;
      few = rounded_few k (length ds) (digits_value 10 ds) below;
    })

-- Where a text may be cut.
use Rattle.std.proofs.Common.{reverse, ℕ, zero, suc, ◌+◌, ◌-◌, ◌<◌, ◌≤◌, ◌≡◌, ◌∙◌, ap, refl, List, Bool, length, take, drop, get_or, true, false, not, arith, inl, inr}
use Rattle.std.proofs.lemmas.Bool.Decides.{nat_tests}
use Rattle.std.proofs.lemmas.Bool.{cases_lt}
use Rattle.std.proofs.Math.Nat.{sub-zero}
use Rattle.std.proofs.lemmas.List.Sums.{prefix_len_passes, prefix_len_stops, prefix_len-le-length, suffix_len-le-length}
use Rattle.std.proofs.lemmas.List.{get_or-reverse, take_all, length-drop}
use Rattle.std.proofs.lemmas.Str.{IsCharBoundary-after_ascii, IsCharBoundary-before_ascii, IsCharBoundary-start, IsCharBoundary-end}
use Rattle.std.specs.List.{prefix_len, suffix_len, slice_range}
use Rattle.std.specs.Str.{IsUtf8, IsCharBoundary}
use Rattle.words.specs.Words.{cut, is_blank, is_separator, separates}
use Rattle.words.specs.declared.Separator.{Separator}
use Rattle.words.specs.declared.Separator.TheVariants.{Blank, BlankOrLineEnd}

-- a test that only ASCII passes
abbrev pub OnlyAscii : (ℕ → Bool) → Type 0
OnlyAscii p = (c : ℕ) → p c ≡ true → c < 128

pub blank_ascii : OnlyAscii is_blank
blank_ascii c h = grind (arith, nat_tests)

separator_ascii : OnlyAscii is_separator
separator_ascii c h = grind (arith, nat_tests)

pub separates_ascii : (s : Separator) → OnlyAscii (separates s)
separates_ascii Blank = blank_ascii
separates_ascii BlankOrLineEnd = separator_ascii

-- behind what passes at the front
pub boundary_after : (p : ℕ → Bool) → OnlyAscii p → (f : List ℕ) (n : ℕ) → IsUtf8 f → n ≤ prefix_len p f → IsCharBoundary f n
boundary_after p ascii f zero u h = IsCharBoundary-start f u
boundary_after p ascii f (suc k) u h =
    let lt : k < prefix_len p f = omega arith in
    let in_f : k < length f = omega (arith, prefix_len-le-length p f) in
    let e : suc k ≡ k + 1 = omega arith in
    rw e (IsCharBoundary-after_ascii f k u in_f (ascii (get_or f k 0) (prefix_len_passes p f k 0 lt)))

pub not_false : (b : Bool) → not b ≡ false → b ≡ true
not_false true e = refl
not_false false e = cc

-- before the first that passes, or at the end
pub boundary_before : (p : ℕ → Bool) → OnlyAscii p → (f : List ℕ) → IsCharBoundary f (prefix_len (λ c. not (p c)) f)
boundary_before p ascii f =
    let n : ℕ = prefix_len (λ c. not (p c)) f in
    elim (cases_lt n (length f)) [
      | inl lt ↦ IsCharBoundary-before_ascii f n lt (ascii (get_or f n 0) (not_false (p (get_or f n 0)) (prefix_len_stops (λ c. not (p c)) f 0 lt)))
      | inr ge ↦ let e : n ≡ length f = omega (arith, prefix_len-le-length (λ c. not (p c)) f) in rw e (IsCharBoundary-end f)
    ]

-- before what passes at the end
pub boundary_at_end : (p : ℕ → Bool) → OnlyAscii p → (f : List ℕ) (m : ℕ) → m ≡ suffix_len p f → IsCharBoundary f (length f - m)
boundary_at_end p ascii f zero h = rw (sub-zero (length f)) (IsCharBoundary-end f)
boundary_at_end p ascii f (suc k) h =
    let within = suffix_len-le-length p f in
    let lt : k < prefix_len p (reverse f) = omega arith in
    let passes = prefix_len_passes p (reverse f) k 0 lt in
    let in_f : k < length f = omega arith in
    let at : get_or (reverse f) k 0 ≡ get_or f (length f - suc k) 0 =
    (let e : length f - 1 - k ≡ length f - suc k = omega arith in get_or-reverse f k 0 in_f ∙ ap (λ i. get_or f i 0) e) in
    let last : p (get_or f (length f - suc k) 0) ≡ true = rw at at passes in
    IsCharBoundary-before_ascii f (length f - suc k) (omega arith) (ascii _ last)

-- the two steps of cutting a text
pub cut_is : (t rest : List ℕ) (a b : ℕ) → a ≡ prefix_len is_blank t → rest ≡ drop a t → b ≡ suffix_len is_blank rest → slice_range rest 0 (length rest - b) ≡ cut t
unfolding cut
cut_is t rest a b e f g = rw (sub-zero, g, f, e) refl

-- a slice to the end
rest_is : (n : ℕ) (xs : List ℕ) → take (length xs - n) (drop n xs) ≡ drop n xs
rest_is n xs = take_all (length xs - n) (drop n xs) (omega (arith, length-drop n xs))

-- the two steps of cutting bytes
pub cut_line_is : (line : List ℕ) (a b : ℕ) → a ≡ prefix_len is_blank line → b ≡ suffix_len is_blank (take (length line - a) (drop a line))
    → take (length (take (length line - a) (drop a line)) - b) (take (length line - a) (drop a line)) ≡ cut line
unfolding cut
cut_line_is line a b e f = rw (f, rest_is a line, e) refl

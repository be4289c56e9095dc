-- What 28 bytes say of a feature.
use Rattle.std.proofs.Common.{ℕ, ◌≡◌, ◌+◌, List, [], ◌∷◌, ◌++◌, take, drop, length, refl, sym, ap, ◌∙◌, arith}
use Rattle.std.specs.Int.{w64, cast_unsigned}
use Rattle.std.proofs.lemmas.List.{take-append-drop, length-append, length-drop, append-nil, drop-drop}
use Rattle.byteorder.specs.Endian.{big_bytes}
use Rattle.byteorder.specs.Numbers.{length-bytes_high_first}
use Rattle.tbnode.specs.Parts.{part, signed_bytes}
use Rattle.register.specs.Text.{kept_text}
use Rattle.register.specs.declared.contents.Kept.{Kept}

pub kept_length : (kept : Kept) → length (kept_text kept) ≡ 28
unfolding kept_text
kept_length kept =
    let z : (n x : ℕ) → length (big_bytes n x) ≡ n = length-bytes_high_first in
    let a = z 8 (cast_unsigned w64 kept.end) in
    let b = z 4 kept.place.first in
    let c = z 4 kept.place.last in
    let d = z 4 kept.place.last_index in
    let e = z 8 kept.place.legs in
    let p = length-append (big_bytes 4 kept.place.last_index) (big_bytes 8 kept.place.legs) in
    let q = length-append (big_bytes 4 kept.place.last) (big_bytes 4 kept.place.last_index ++ big_bytes 8 kept.place.legs) in
    let r = length-append (big_bytes 4 kept.place.first) (big_bytes 4 kept.place.last ++ (big_bytes 4 kept.place.last_index ++ big_bytes 8 kept.place.legs)) in
    let s = length-append (signed_bytes kept.end) (big_bytes 4 kept.place.first ++ (big_bytes 4 kept.place.last ++ (big_bytes 4 kept.place.last_index ++ big_bytes 8 kept.place.legs))) in
    omega (arith, a, b, c, d, e, p, q, r, s)

module _ (bytes : List ℕ) where
  from : (p n q : ℕ) → q ≡ p + n → part p n bytes ++ drop q bytes ≡ drop p bytes
  unfolding part
  from p n q e = ap (λ k. take n (drop p bytes) ++ drop k bytes) e ∙ ap (λ l. take n (drop p bytes) ++ l) (sym (drop-drop n p bytes)) ∙ take-append-drop n (drop p bytes)

  none : (n : ℕ) → length bytes ≡ n → drop n bytes ≡ []
  none n e = empty (drop n bytes) (let l = length-drop n bytes in omega (arith, l, e)) where
    empty : (l : List ℕ) → length l ≡ 0 → l ≡ []
    empty [] h = refl
    empty (x ∷ xs) h = absurd (omega (arith, h))

  pub five_parts : length bytes ≡ 28 → part 0 8 bytes ++ (part 8 4 bytes ++ (part 12 4 bytes ++ (part 16 4 bytes ++ part 20 8 bytes))) ≡ bytes
  five_parts e =
      ap (λ l. part 0 8 bytes ++ (part 8 4 bytes ++ (part 12 4 bytes ++ (part 16 4 bytes ++ l)))) (sym (append-nil (part 20 8 bytes)) ∙ ap (λ l. part 20 8 bytes ++ l) (sym (none 28 e)) ∙ from 20 8 28 refl)
      ∙ ap (λ l. part 0 8 bytes ++ (part 8 4 bytes ++ (part 12 4 bytes ++ l))) (from 16 4 20 refl)
      ∙ ap (λ l. part 0 8 bytes ++ (part 8 4 bytes ++ l)) (from 12 4 16 refl)
      ∙ ap (λ l. part 0 8 bytes ++ l) (from 8 4 12 refl)
      ∙ from 0 8 8 refl

  pub kept_is : (kept : Kept) → length bytes ≡ 28 → signed_bytes kept.end ≡ part 0 8 bytes → big_bytes 4 kept.place.first ≡ part 8 4 bytes → big_bytes 4 kept.place.last ≡ part 12 4 bytes
      → big_bytes 4 kept.place.last_index ≡ part 16 4 bytes → big_bytes 8 kept.place.legs ≡ part 20 8 bytes → kept_text kept ≡ bytes
  unfolding kept_text
  kept_is kept len a b c d e = (λ i. a i ++ (b i ++ (c i ++ (d i ++ e i)))) ∙ five_parts len

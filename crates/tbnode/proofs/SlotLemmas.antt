-- What a change of bytes leaves of the head and of the slots behind it.
use Rattle.std.proofs.Common.{◌≡◌, ℕ, ◌+◌, ◌-◌, ◌*◌, ◌^◌, ◌<◌, ◌≤◌, ◌⊎◌, List, length, replicate, sym, ap, ◌∙◌, arith, inl, inr, ⊎_elim, take}
use Rattle.std.proofs.Math.Nat.{mul-le-mul_right, add-mul, mul_comm}
use Rattle.std.proofs.lemmas.List.{take-replicate, drop-replicate}
use Rattle.byteorder.specs.Endian.{big_bytes}
use Rattle.tbnode.specs.Parts.{part, put, number_at, slot}
use Rattle.tbnode.specs.Steps.{pushed}
use Rattle.tbnode.proofs.PartLemmas.{length-put, part-put_before, part-put_after, part-put_same, number_at-put_before, number_at-put_after, number_at-put_same, length-big_bytes}

pub steps : (m i n : ℕ) → i < n → m * i + m ≤ m * n
steps m i n h =
    let a : (i + 1) * m ≤ n * m = mul-le-mul_right m (omega arith) in
    let b : (i + 1) * m ≡ i * m + 1 * m = add-mul i 1 m in
    omega (arith, a, b, mul_comm i m, mul_comm n m)

-- a number of the head is not at a place of the change
abbrev pub IsApart : ℕ → ℕ → ℕ → ℕ → Type 0
IsApart k a place n = (a + k ≤ place) ⊎ (place + n ≤ a)

number-apart : (p : ℕ) (new bytes : List ℕ) (k a : ℕ) → p ≤ length bytes → IsApart k a p (length new) → number_at k a (put p new bytes) ≡ number_at k a bytes
number-apart p new bytes k a l h =
    ⊎_elim (λ b. number_at-put_before p new bytes k a b l) (λ b. number_at-put_after p new bytes k a b l) h

-- a number of the head is changed
module _ (bytes : List ℕ) (k p x : ℕ) (inside : p + k ≤ 16) (room : 16 ≤ length bytes) where
  pub number-set : x < 256 ^ k → number_at k p (put p (big_bytes k x) bytes) ≡ x
  number-set h = number_at-put_same k p x bytes h (omega arith)

  pub number-unset : (j a : ℕ) → IsApart j a p k → number_at j a (put p (big_bytes k x) bytes) ≡ number_at j a bytes
  number-unset j a h =
      let s = length-big_bytes k x in
      number-apart p (big_bytes k x) bytes j a (omega arith)
      (⊎_elim (λ b. inl b) (λ b. inr (omega (arith, b, s))) h)

  pub slot-unset : (m i : ℕ) → slot m i (put p (big_bytes k x) bytes) ≡ slot m i bytes
  slot-unset m i = part-put_after p (big_bytes k x) bytes (16 + m * i) m (omega (arith, length-big_bytes k x)) (omega arith)

  pub length-set : length (put p (big_bytes k x) bytes) ≡ length bytes
  length-set = length-put p (big_bytes k x) bytes (omega (arith, length-big_bytes k x))

-- slot n is changed
module _ (bytes : List ℕ) (m n : ℕ) (new : List ℕ) (size : length new ≡ m) (room : 16 + m * n + m ≤ length bytes) where
  pub head-slot : (k a : ℕ) → a + k ≤ 16 → number_at k a (put (16 + m * n) new bytes) ≡ number_at k a bytes
  head-slot k a h = number_at-put_before (16 + m * n) new bytes k a (omega arith) (omega arith)

  pub slot-before : (i : ℕ) → i < n → slot m i (put (16 + m * n) new bytes) ≡ slot m i bytes
  slot-before i h = part-put_before (16 + m * n) new bytes (16 + m * i) m (omega (arith, steps m i n h)) (omega arith)

  pub slot-after : (i : ℕ) → n < i → slot m i (put (16 + m * n) new bytes) ≡ slot m i bytes
  slot-after i h = part-put_after (16 + m * n) new bytes (16 + m * i) m (omega (arith, size, steps m n i h)) (omega arith)

  pub slot-same : slot m n (put (16 + m * n) new bytes) ≡ new
  slot-same = part-put_same (16 + m * n) new bytes m (sym size) (omega arith)

  pub length-slot : length (put (16 + m * n) new bytes) ≡ length bytes
  length-slot = length-put (16 + m * n) new bytes (omega (arith, size))

-- a slot more
module _ (bytes : List ℕ) (m place : ℕ) (new : List ℕ) (size : length new ≡ m) (inside : place + 2 ≤ 16) (room : 16 + m * number_at 2 place bytes + m ≤ length bytes) where
  module _ (few : number_at 2 place bytes + 1 < 256 ^ 2) where
    pub count-pushed : number_at 2 place (pushed m place new bytes) ≡ number_at 2 place bytes + 1
    count-pushed =
        let n = number_at 2 place bytes in
        number-set (put (16 + m * n) new bytes) 2 place (n + 1) inside (omega (arith, length-slot bytes m n new size room)) few

  pub head-pushed : (k a : ℕ) → a + k ≤ 16 → IsApart k a place 2 → number_at k a (pushed m place new bytes) ≡ number_at k a bytes
  head-pushed k a h apart =
      let n = number_at 2 place bytes in
      number-unset (put (16 + m * n) new bytes) 2 place (n + 1) inside (omega (arith, length-slot bytes m n new size room)) k a apart
      ∙ head-slot bytes m n new size room k a h

  pub slot-pushed : (i : ℕ) → i < number_at 2 place bytes → slot m i (pushed m place new bytes) ≡ slot m i bytes
  slot-pushed i h =
      let n = number_at 2 place bytes in
      slot-unset (put (16 + m * n) new bytes) 2 place (n + 1) inside (omega (arith, length-slot bytes m n new size room)) m i
      ∙ slot-before bytes m n new size room i h

  pub slot-last : slot m (number_at 2 place bytes) (pushed m place new bytes) ≡ new
  slot-last =
      let n = number_at 2 place bytes in
      slot-unset (put (16 + m * n) new bytes) 2 place (n + 1) inside (omega (arith, length-slot bytes m n new size room)) m n
      ∙ slot-same bytes m n new size room

-- zeros say 0
pub zeros-part : (m k a : ℕ) → a + k ≤ m → part a k (replicate m 0) ≡ replicate k 0
unfolding part
zeros-part m k a h = ap (take k) (drop-replicate a m 0) ∙ take-replicate k (m - a) 0 (omega arith)

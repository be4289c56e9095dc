-- The words of a page's padded message.
use Rattle.std.proofs.Common.{◌≡◌, ℕ, zero, suc, ◌<◌, ◌≤◌, ◌+◌, ◌-◌, ◌*◌, ◌/◌, List, [], ◌∷◌, ◌++◌, length, take, drop, slice_index, arith, refl, sym, ap, ◌∙◌, length-append, subst}
use Rattle.std.proofs.lemmas.List.{get_or_append_left, get_or-append_right, get_or-take, length-take-le}
use Rattle.std.proofs.lemmas.Simd.{get_or-chunk}
use Rattle.sha2.specs.Sha256.{word_at, padding, padded_message}

pub word_same : (xs ys : List ℕ) (i k : ℕ) → slice_index xs i ≡ slice_index ys k → slice_index xs (i + 1) ≡ slice_index ys (k + 1)
    → slice_index xs (i + 2) ≡ slice_index ys (k + 2) → slice_index xs (i + 3) ≡ slice_index ys (k + 3) → word_at xs i ≡ word_at ys k
word_same xs ys i k e0 e1 e2 e3 = rw (e0, e1, e2, e3) refl

word_front : (m p : List ℕ) (i : ℕ) → i + 4 ≤ length m → word_at (m ++ p) i ≡ word_at m i
word_front m p i h =
    word_same (m ++ p) m i i (get_or_append_left m p 0 i (omega arith)) (get_or_append_left m p 0 (i + 1) (omega arith))
    (get_or_append_left m p 0 (i + 2) (omega arith)) (get_or_append_left m p 0 (i + 3) (omega arith))

word_take : (n : ℕ) (xs : List ℕ) (i : ℕ) → i + 4 ≤ n → word_at (take n xs) i ≡ word_at xs i
word_take n xs i h =
    word_same (take n xs) xs i i (get_or-take n xs i 0 (omega arith)) (get_or-take n xs (i + 1) 0 (omega arith))
    (get_or-take n xs (i + 2) 0 (omega arith)) (get_or-take n xs (i + 3) 0 (omega arith))

pub back_at : (m p : List ℕ) (n i k : ℕ) → length m ≡ n → k ≡ n + i → slice_index (m ++ p) k ≡ slice_index p i
back_at m p n i k len e =
    let same : k - n ≡ i = omega arith in
    get_or-append_right m p n k 0 len (omega arith) ∙ ap (λ (d : ℕ). slice_index p d) same

word_back : (m p : List ℕ) (n i : ℕ) → length m ≡ n → word_at (m ++ p) (n + i) ≡ word_at p i
word_back m p n i len =
    word_same (m ++ p) p (n + i) i (back_at m p n i (n + i) len refl) (back_at m p n (i + 1) (n + i + 1) len (omega arith))
    (back_at m p n (i + 2) (n + i + 2) len (omega arith)) (back_at m p n (i + 3) (n + i + 3) len (omega arith))

chunk_at : (a i k : ℕ) (xs : List ℕ) → i < 64 → k ≡ a + i → slice_index (take 64 (drop a xs)) i ≡ slice_index xs k
chunk_at a i k xs h e = get_or-chunk a 64 xs i 0 h ∙ ap (λ (d : ℕ). slice_index xs d) (sym e)

pub word_block : (a i k : ℕ) (xs : List ℕ) → i + 4 ≤ 64 → k ≡ a + i → word_at (take 64 (drop a xs)) i ≡ word_at xs k
word_block a i k xs h e =
    word_same (take 64 (drop a xs)) xs i k (chunk_at a i k xs (omega arith) e) (chunk_at a (i + 1) (k + 1) xs (omega arith) (omega arith))
    (chunk_at a (i + 2) (k + 2) xs (omega arith) (omega arith)) (chunk_at a (i + 3) (k + 3) xs (omega arith) (omega arith))

-- a word of the page, in the padded message of its first 4,064 bytes
pub page_word : (p : List ℕ) (i : ℕ) → i + 4 ≤ 4064 → length p ≡ 4096 → word_at p i ≡ word_at (padded_message (take 4064 p)) i
page_word p i h len =
    let m = take 4064 p in
    let long : length m ≡ 4064 = length-take-le 4064 p (omega arith) in
    sym (word_take 4064 p i h) ∙ sym (word_front m (padding (length m)) i (omega arith))

-- a word of the padding
pub padding_word : (p : List ℕ) (i : ℕ) → length p ≡ 4096 → word_at (padding 4064) i ≡ word_at (padded_message (take 4064 p)) (4064 + i)
padding_word p i len =
    let m = take 4064 p in
    let long : length m ≡ 4064 = length-take-le 4064 p (omega arith) in
    sym (rw long (word_back m (padding 4064) 4064 i long))

-- 64 blocks
pub padded_blocks : (p : List ℕ) → length p ≡ 4096 → length (padded_message (take 4064 p)) / 64 ≡ 64
padded_blocks p len =
    let m = take 4064 p in
    let long : length m ≡ 4064 = length-take-le 4064 p (omega arith) in
    rw long (let whole : length (m ++ padding 4064) ≡ 4096 = length-append m (padding 4064) ∙ rw long refl in rw whole refl)

pub below_eight : (P : ℕ → Type 0) → P 0 → P 1 → P 2 → P 3 → P 4 → P 5 → P 6 → P 7 → (j : ℕ) → j < 8 → P j
below_eight P p0 p1 p2 p3 p4 p5 p6 p7 zero h = p0
below_eight P p0 p1 p2 p3 p4 p5 p6 p7 (suc zero) h = p1
below_eight P p0 p1 p2 p3 p4 p5 p6 p7 (suc (suc zero)) h = p2
below_eight P p0 p1 p2 p3 p4 p5 p6 p7 (suc (suc (suc zero))) h = p3
below_eight P p0 p1 p2 p3 p4 p5 p6 p7 (suc (suc (suc (suc zero)))) h = p4
below_eight P p0 p1 p2 p3 p4 p5 p6 p7 (suc (suc (suc (suc (suc zero))))) h = p5
below_eight P p0 p1 p2 p3 p4 p5 p6 p7 (suc (suc (suc (suc (suc (suc zero)))))) h = p6
below_eight P p0 p1 p2 p3 p4 p5 p6 p7 (suc (suc (suc (suc (suc (suc (suc zero))))))) h = p7
below_eight P p0 p1 p2 p3 p4 p5 p6 p7 (suc (suc (suc (suc (suc (suc (suc (suc n)))))))) h = absurd (omega arith)

below_two : (P : ℕ → Type 0) → P 0 → P 1 → (j : ℕ) → j < 2 → P j
below_two P p0 p1 zero h = p0
below_two P p0 p1 (suc zero) h = p1
below_two P p0 p1 (suc (suc n)) h = absurd (omega arith)

pub below_sixteen : (P : ℕ → Type 0) → P 0 → P 1 → P 2 → P 3 → P 4 → P 5 → P 6 → P 7
    → P 8 → P 9 → P 10 → P 11 → P 12 → P 13 → P 14 → P 15 → (k : ℕ) → k < 16 → P k
below_sixteen P a0 a1 a2 a3 a4 a5 a6 a7 b0 b1 b2 b3 b4 b5 b6 b7 k h =
    let place : 8 * (k / 8) + (k - 8 * (k / 8)) ≡ k = omega arith in
    let row : k / 8 < 2 = omega arith in
    subst P place (below_two (λ r. (col : ℕ) → col < 8 → P (8 * r + col))
    (below_eight _ a0 a1 a2 a3 a4 a5 a6 a7) (below_eight _ b0 b1 b2 b3 b4 b5 b6 b7)
    (k / 8) row (k - 8 * (k / 8)) (omega arith))

-- the last block's words, one by one
pub last_block_words : (p : List ℕ) → length p ≡ 4096 → (x0 x1 x2 x3 x4 x5 x6 x7 x8 x9 x10 x11 x12 x13 x14 x15 : ℕ)
    → x0 ≡ word_at p 4032
    → x1 ≡ word_at p 4036
    → x2 ≡ word_at p 4040
    → x3 ≡ word_at p 4044
    → x4 ≡ word_at p 4048
    → x5 ≡ word_at p 4052
    → x6 ≡ word_at p 4056
    → x7 ≡ word_at p 4060
    → x8 ≡ word_at (padding 4064) 0
    → x9 ≡ word_at (padding 4064) 4
    → x10 ≡ word_at (padding 4064) 8
    → x11 ≡ word_at (padding 4064) 12
    → x12 ≡ word_at (padding 4064) 16
    → x13 ≡ word_at (padding 4064) 20
    → x14 ≡ word_at (padding 4064) 24
    → x15 ≡ word_at (padding 4064) 28
    → (k : ℕ) → k < 16
    → slice_index (x0 ∷ x1 ∷ x2 ∷ x3 ∷ x4 ∷ x5 ∷ x6 ∷ x7 ∷ x8 ∷ x9 ∷ x10 ∷ x11 ∷ x12 ∷ x13 ∷ x14 ∷ x15 ∷ []) k ≡ word_at (padded_message (take 4064 p)) (4032 + 4 * k)
last_block_words p len x0 x1 x2 x3 x4 x5 x6 x7 x8 x9 x10 x11 x12 x13 x14 x15 e0 e1 e2 e3 e4 e5 e6 e7 e8 e9 e10 e11 e12 e13 e14 e15 =
    below_sixteen (λ k. slice_index (x0 ∷ x1 ∷ x2 ∷ x3 ∷ x4 ∷ x5 ∷ x6 ∷ x7 ∷ x8 ∷ x9 ∷ x10 ∷ x11 ∷ x12 ∷ x13 ∷ x14 ∷ x15 ∷ []) k ≡ word_at (padded_message (take 4064 p)) (4032 + 4 * k))
    (e0 ∙ page_word p 4032 (omega arith) len)
    (e1 ∙ page_word p 4036 (omega arith) len)
    (e2 ∙ page_word p 4040 (omega arith) len)
    (e3 ∙ page_word p 4044 (omega arith) len)
    (e4 ∙ page_word p 4048 (omega arith) len)
    (e5 ∙ page_word p 4052 (omega arith) len)
    (e6 ∙ page_word p 4056 (omega arith) len)
    (e7 ∙ page_word p 4060 (omega arith) len)
    (e8 ∙ padding_word p 0 len)
    (e9 ∙ padding_word p 4 len)
    (e10 ∙ padding_word p 8 len)
    (e11 ∙ padding_word p 12 len)
    (e12 ∙ padding_word p 16 len)
    (e13 ∙ padding_word p 20 len)
    (e14 ∙ padding_word p 24 len)
    (e15 ∙ padding_word p 28 len)

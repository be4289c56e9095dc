-- Multiples of powers, and groups that are all full.
use Rattle.std.proofs.Common.{ℕ, zero, suc, ◌+◌, ◌*◌, ◌/◌, ◌%◌, ◌^◌, ◌<◌, ◌≤◌, ◌≡◌, ◌≢◌, List, [], ◌∷◌, ◌++◌, take, drop, length, sym, ap, ◌∙◌, arith, subst, ⊎_elim, mul_assoc, mul_comm, length-drop}
use Rattle.std.proofs.lemmas.Nat.{div-add-mod', div-mul-add, mod_below}
use Rattle.std.proofs.Math.Nat.{mul-mod_left, pow-suc}
use Rattle.std.proofs.lemmas.Bool.{cases_eq, cases_lt}
use Rattle.std.proofs.lemmas.List.{drop_all, take_all, length-set}
use Rattle.legs.specs.Blocks.{groups, block}
use Rattle.legs.proofs.GroupLemmas.{group_within, group_beyond}
use Rattle.tbtree.proofs.PushLemmas.{groups_push-same}
use Rattle.tbtree.proofs.Widening.{pow_above}

turned : (q a b : ℕ) → q * b * a ≡ q * (a * b)
turned q a b = mul_assoc q b a ∙ ap (λ z. q * z) (mul_comm b a)

-- a multiple of a whose quotient is one of b is a multiple of both
mod_up : (n a b : ℕ) → n % a ≡ 0 → n / a % b ≡ 0 → n % (a * b) ≡ 0
mod_up n a b e f =
    let q = n / a / b in
    let d : n / a * a + n % a ≡ n = div-add-mod' n a in
    let d' : q * b + n / a % b ≡ n / a = div-add-mod' (n / a) b in
    let e' : n ≡ n / a * a = omega (arith, d, e) in
    let f' : n / a ≡ q * b = omega (arith, d', f) in
    let w : n ≡ q * (a * b) = e' ∙ ap (λ z. z * a) f' ∙ turned q a b in
    ap (λ z. z % (a * b)) w ∙ mul-mod_left q (a * b)

mod_down : (n a b : ℕ) → 0 < a → n % (a * b) ≡ 0 → (n % a ≡ 0) × (n / a % b ≡ 0)
mod_down n a b h e =
    let q = n / (a * b) in
    let d : q * (a * b) + n % (a * b) ≡ n = div-add-mod' n (a * b) in
    let w : n ≡ q * b * a = (let u : n ≡ q * (a * b) = omega (arith, d, e) in u) ∙ sym (turned q a b) in
    let z : q * b * a ≡ q * b * a + 0 = omega arith in (
      ap (λ z. z % a) w ∙ mul-mod_left (q * b) a,
      ap (λ z. z / a % b) (w ∙ z) ∙ ap (λ z. z % b) (div-mul-add (q * b) a 0 h) ∙ mul-mod_left q b,
    )

module _ (inner n : ℕ) (h : 0 < inner) where
  pub full_up : (k : ℕ) → n % inner ^ k ≡ 0 → n / inner ^ k % inner ≡ 0 → n % inner ^ suc k ≡ 0
  full_up k e f = ap (λ z. n % z) (pow-suc inner k) ∙ mod_up n (inner ^ k) inner e f

  pub full_down : (k : ℕ) → n % inner ^ suc k ≡ 0 → (n % inner ^ k ≡ 0) × (n / inner ^ k % inner ≡ 0)
  full_down k e = mod_down n (inner ^ k) inner (pow_above inner k h) (ap (λ z. n % z) (sym (pow-suc inner k)) ∙ e)

  pub full_below : (k K : ℕ) → k ≤ K → n % inner ^ K ≡ 0 → n % inner ^ k ≡ 0
  full_below k zero l e = subst (λ z. n % inner ^ z ≡ 0) (let z : 0 ≡ k = omega (arith, l) in z) e
  full_below k (suc K) l e =
      ⊎_elim
      (λ (u : suc K ≡ k). subst (λ z. n % inner ^ z ≡ 0) u e)
      (λ (u : suc K ≢ k). full_below k K (omega (arith, l, u)) (full_down K e).0)
      (cases_eq (suc K) k)

  -- the levels above one that has room have room too
  pub room_above : (K k : ℕ) → K < k → n / inner ^ K % inner ≢ 0 → 0 < n % inner ^ k
  room_above K k l u = ⊎_elim (λ (e : n % inner ^ k ≡ 0). absurd (u (full_down K (full_below (suc K) k (omega (arith, l)) e)).1)) (λ (e : n % inner ^ k ≢ 0). omega (arith, e)) (cases_eq (n % inner ^ k) 0)

module _ {X : Type 0} where
  pub one_group : (m : ℕ) (xs : List X) → 0 < length xs → length xs ≤ m → length (groups m xs) ≡ 1
  one_group m xs a b =
      let m_above : 0 < m = omega (arith, a, b) in
      let l : 0 < length (groups m xs) = group_within m xs 0 m_above (let z : 0 * m ≡ 0 = omega arith in omega (arith, z, a)) in
      ⊎_elim (λ (k : 1 < length (groups m xs)). absurd (let w = group_beyond m xs 1 m_above k in let z : 1 * m ≡ m = omega arith in omega (arith, w, z, b))) (λ (k : length (groups m xs) ≤ 1). omega (arith, l, k)) (cases_lt 1 (length (groups m xs)))

  pub as_many_same : (m : ℕ) (xs : List X) (y : X) → 0 < m → 0 < length xs % m → length (groups m (xs ++ y ∷ [])) ≡ length (groups m xs)
  as_many_same m xs y h r = ap length (groups_push-same m xs y h r) ∙ length-set (groups m xs) _ _

  pub block_past : (n : ℕ) (xs : List X) (j : ℕ) → length xs ≤ j * n → block n j xs ≡ []
  block_past n xs j l = ap (take n) (drop_all (j * n) xs l) ∙ take_all n [] (omega arith)

  -- the group that an element more would go to has room
  pub block_short : (n : ℕ) (xs : List X) (j : ℕ) → 0 < n → j ≡ length xs / n → length (block n j xs) < n
  block_short n xs j h e =
      let s : j * n + length xs % n ≡ length xs = ap (λ q. q * n + length xs % n) e ∙ div-add-mod' (length xs) n in
      let r : length xs % n < n = mod_below (length xs) n h in
      let d : length (drop (j * n) xs) ≡ length xs % n = length-drop (j * n) xs ∙ omega (arith, s) in
      let t = ap length (take_all n (drop (j * n) xs) (omega (arith, d, r))) in
      omega (arith, t, d, r)

-- The blocks of a level as those of the level below, joined; levels of one block.
use Rattle.std.proofs.Common.{ℕ, zero, suc, ◌*◌, ◌^◌, ◌<◌, ◌≤◌, ◌≡◌, ◌==◌, true, cond, List, [], ◌∷◌, ◌++◌, take, drop, map, length, refl, sym, ap, ◌∙◌, arith, ⊎_elim, mul_assoc, mul_comm, Some, slice_get}
use Rattle.std.specs.List.{count_by}
use Rattle.std.proofs.Math.Nat.{pow-suc, pow-zero, mod-one, pow-le-pow_right, one-le-pow}
use Rattle.std.proofs.lemmas.Bool.{cases_lt}
use Rattle.std.proofs.lemmas.List.{take_all}
use Rattle.std.proofs.lemmas.Nat.{mul-le}
use Rattle.std.proofs.lemmas.Option.{slice_get_within}
use Rattle.legs.specs.Blocks.{groups, runs_after, level, block, joined}
use Rattle.legs.proofs.GroupLemmas.{group_within, group_beyond, group_is, some_same, joined_blocks}
use Rattle.tbtree.proofs.FullLemmas.{one_group}
use Rattle.tbtree.proofs.Widening.{pow_above}

-- numbers that are above the same numbers
pub same_count : (a b : ℕ) → ((j : ℕ) → j < a → j < b) → ((j : ℕ) → j < b → j < a) → a ≡ b
same_count a b f g =
    ⊎_elim (λ (l : a < b). absurd (let w : a < a = g a l in omega (arith, w)))
    (λ (l : b ≤ a). ⊎_elim (λ (k : b < a). absurd (let w : b < b = f b k in omega (arith, w))) (λ (k : a ≤ b). omega (arith, k, l)) (cases_lt b a))
    (cases_lt a b)

-- lists of one length have as many groups
pub groups_as_many : {X Y : Type 0} (n : ℕ) (xs : List X) (ys : List Y) → 0 < n → length xs ≡ length ys → length (groups n xs) ≡ length (groups n ys)
groups_as_many n xs ys h e =
    same_count _ _
    (λ j l. group_within n ys j h (let a = group_beyond n xs j h l in omega (arith, a, e)))
    (λ j l. group_within n xs j h (let a = group_beyond n ys j h l in omega (arith, a, e)))

pub group_get : {X : Type 0} (n : ℕ) (xs : List X) (j : ℕ) (g : List X) → 0 < n → slice_get (groups n xs) j ≡ Some g → g ≡ block n j xs
group_get n xs j g h e = some_same g (block n j xs) (sym e ∙ group_is n xs j h (group_beyond n xs j h (slice_get_within (groups n xs) j g e)))

by_parts : (inner k j : ℕ) → j * inner * inner ^ k ≡ j * inner ^ suc k
by_parts inner k j = mul_assoc j inner (inner ^ k) ∙ ap (λ z. j * z) (mul_comm inner (inner ^ k) ∙ sym (pow-suc inner k))

module _ {X : Type 0} (inner : ℕ) (h : 0 < inner) (xs : List X) where
  -- a level has as many blocks as the level below has groups
  pub groups_of_level : (k : ℕ) → length (groups inner (level inner k xs)) ≡ length (level inner (suc k) xs)
  groups_of_level k =
      let n = inner ^ k in
      let above : 0 < n = pow_above inner k h in
      let above' : 0 < inner ^ suc k = pow_above inner (suc k) h in
      same_count _ _
      (λ j l. let a = group_beyond inner (level inner k xs) j h l in let b = group_beyond n xs (j * inner) above a in group_within (inner ^ suc k) xs j above' (let e = by_parts inner k j in omega (arith, b, e)))
      (λ j l. let a = group_beyond (inner ^ suc k) xs j above' l in group_within inner (level inner k xs) j h (group_within n xs (j * inner) above (let e = by_parts inner k j in omega (arith, a, e))))

  pub block_of_level : (k j : ℕ) → joined (block inner j (level inner k xs)) ≡ block (inner ^ suc k) j xs
  block_of_level k j =
      joined_blocks inner (inner ^ k) (j * inner) xs (pow_above inner k h)
      ∙ ap (λ z. take z (drop (j * inner * inner ^ k) xs)) (mul_comm inner (inner ^ k) ∙ sym (pow-suc inner k))
      ∙ ap (λ z. take (inner ^ suc k) (drop z xs)) (by_parts inner k j)

  -- the groups of a list, one after another
  pub joined-groups : joined (groups inner xs) ≡ xs
  joined-groups =
      sym (ap joined (take_all (length (groups inner xs)) (groups inner xs) (omega arith)))
      ∙ joined_blocks (length (groups inner xs)) inner 0 xs h
      ∙ ap (λ z. take (length (groups inner xs) * inner) (drop z xs)) (let z : 0 * inner ≡ 0 = omega arith in z)
      ∙ take_all (length (groups inner xs) * inner) xs (⊎_elim (λ (l : length (groups inner xs) * inner < length xs). absurd (let w = group_within inner xs (length (groups inner xs)) h l in omega (arith, w))) (λ l. l) (cases_lt (length (groups inner xs) * inner) (length xs)))

-- groups of one
single_runs : {X : Type 0} (b xs : List X) → runs_after (λ _. 0) 1 b xs ≡ map (λ x. x ∷ []) xs
single_runs b [] = refl
single_runs {X} b (x ∷ xs) =
    ap (λ k. cond (k == 0) ((x ∷ []) ∷ runs_after (λ (_ : X). 0) 1 (b ++ x ∷ []) xs) (runs_after (λ (_ : X). 0) 1 (b ++ x ∷ []) xs)) (mod-one (count_by (λ _. true) b))
    ∙ ap (λ l. (x ∷ []) ∷ l) (single_runs (b ++ x ∷ []) xs)

pub level_0 : {X : Type 0} (inner : ℕ) (xs : List X) → level inner 0 xs ≡ map (λ x. x ∷ []) xs
level_0 inner xs = ap (λ n. groups n xs) (pow-zero inner) ∙ single_runs [] xs

module _ {X : Type 0} (inner : ℕ) (h : 1 < inner) (xs : List X) where
  few : (T : ℕ) → length (level inner T xs) ≡ 1 → length xs ≤ inner ^ T
  few T e =
      ⊎_elim (λ (l : inner ^ T < length xs). absurd (let w = group_within (inner ^ T) xs 1 (pow_above inner T (omega arith)) (let z : 1 * inner ^ T ≡ inner ^ T = omega arith in omega (arith, z, l)) in omega (arith, w, e))) (λ l. l) (cases_lt (inner ^ T) (length xs))

  -- levels above one of one block have one
  pub one_above : (T k : ℕ) → 0 < length xs → length (level inner T xs) ≡ 1 → T ≤ k → length (level inner k xs) ≡ 1
  one_above T k s e l = one_group (inner ^ k) xs s (let a = few T e in let b = pow-le-pow_right {n = inner} (omega arith) {i = T} {j = k} l in omega (arith, a, b))

  more : (t : ℕ) → suc t ≤ inner ^ t
  more zero = one-le-pow 0 inner (omega arith)
  more (suc t) = let a = more t in let p = pow-suc inner t in let m : inner ^ t * 2 ≤ inner ^ t * inner = mul-le (inner ^ t) 2 (inner ^ t) inner (omega arith) (omega arith) in omega (arith, a, p, m)

  -- a level with more than one block is below the number of elements
  pub few_below : (t : ℕ) → 1 < length (level inner t xs) → suc t < length xs
  few_below t l = let a = more t in let b = group_beyond (inner ^ t) xs 1 (pow_above inner t (omega arith)) l in let z : 1 * inner ^ t ≡ inner ^ t = omega arith in omega (arith, a, b, z)

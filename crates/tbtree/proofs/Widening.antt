-- A changed element of a list, and of its groups; a widened entry.
use Rattle.std.proofs.Common.{ℕ, zero, suc, ◌+◌, ◌*◌, ◌/◌, ◌%◌, ◌^◌, ◌<◌, ◌≡◌, ◌≢◌, true, cond, nat_lt, List, [], ◌∷◌, set, map, length, refl, sym, ap, ◌∙◌, arith, subst, lt-ltb, ⊎_elim, Option, Some, None, slice_get}
use Rattle.std.proofs.lemmas.Nat.{div-add-mod', mul-lt}
use Rattle.std.proofs.Math.Nat.{pow-suc, pow-zero}
use Rattle.std.proofs.lemmas.Bool.{cases_eq}
use Rattle.std.proofs.lemmas.List.{length-set}
use Rattle.legs.specs.Blocks.{groups, block}
use Rattle.legs.specs.Hull.{Boxes, both}
use Rattle.tbtree.specs.Nodes.{Node, ALeaf, AnInner, LeafView, InnerView, EntryView, widened}
use Rattle.legs.proofs.GroupLemmas.{some_none, some_same, group_at, block_set-at, block_set-other, same_by_get}

module _ {X : Type 0} where
  pub get-set_same : (xs : List X) (i : ℕ) (v x : X) → slice_get xs i ≡ Some x → slice_get (set xs i v) i ≡ Some v
  get-set_same [] i v x h = absurd (some_none x (sym h))
  get-set_same (y ∷ xs) zero v x h = refl
  get-set_same (y ∷ xs) (suc i) v x h = get-set_same xs i v x h

  pub get-set_other : (xs : List X) (i j : ℕ) (v : X) → j ≢ i → slice_get (set xs i v) j ≡ slice_get xs j
  get-set_other [] i j v h = refl
  get-set_other (y ∷ xs) zero zero v h = absurd (h refl)
  get-set_other (y ∷ xs) zero (suc j) v h = refl
  get-set_other (y ∷ xs) (suc i) zero v h = refl
  get-set_other (y ∷ xs) (suc i) (suc j) v h = get-set_other xs i j v (λ e. h (ap suc e))

module _ {X : Type 0} where
  -- one changed element changes one group
  pub groups_set : (n : ℕ) (xs : List X) (i : ℕ) (v : X) → 0 < n → i < length xs → groups n (set xs i v) ≡ set (groups n xs) (i / n) (set (block n (i / n) xs) (i % n) v)
  groups_set n xs i v h l =
      same_by_get _ _ (λ j.
      let new = set (block n (i / n) xs) (i % n) v in
      let old : slice_get (groups n (set xs i v)) j ≡ cond (nat_lt (j * n) (length xs)) (Some (block n j (set xs i v))) None =
      group_at n (set xs i v) j h ∙ ap (λ k. cond (nat_lt (j * n) k) (Some (block n j (set xs i v))) None) (length-set xs i v) in
      ⊎_elim
      (λ (e : j ≡ i / n).
      let q : i / n * n + i % n ≡ i = div-add-mod' i n in
      let w : i / n * n < length xs = omega (arith, q, l) in
      let t : nat_lt (i / n * n) (length xs) ≡ true = lt-ltb _ _ w in
      let g : slice_get (groups n xs) (i / n) ≡ Some (block n (i / n) xs) = group_at n xs (i / n) h ∙ ap (λ b. cond b (Some (block n (i / n) xs)) None) t in
      old ∙ ap (λ k. cond (nat_lt (k * n) (length xs)) (Some (block n k (set xs i v))) None) e
      ∙ ap (λ b. cond b (Some (block n (i / n) (set xs i v))) None) t ∙ ap Some (block_set-at n xs i v)
      ∙ sym (ap (slice_get (set (groups n xs) (i / n) new)) e ∙ get-set_same (groups n xs) (i / n) new (block n (i / n) xs) g))
      (λ (e : j ≢ i / n).
      old ∙ ap (λ b. cond (nat_lt (j * n) (length xs)) (Some b) None) (block_set-other n xs i v j h e) ∙ sym (group_at n xs j h)
      ∙ sym (get-set_other (groups n xs) (i / n) j new e))
      (cases_eq j (i / n)))

  pub cons_head : (x y : X) (xs ys : List X) → x ∷ xs ≡ y ∷ ys → x ≡ y
  cons_head x y xs ys e = ap (λ (l : List X). elim l as (λ _. X) [ [] ↦ x | z ∷ zs ↦ z ]) e

  pub cons_tail : (x y : X) (xs ys : List X) → x ∷ xs ≡ y ∷ ys → xs ≡ ys
  cons_tail x y xs ys e = ap (λ (l : List X). elim l as (λ _. List X) [ [] ↦ xs | z ∷ zs ↦ zs ]) e

pub nil_cons : {X : Type 0} (x : X) (xs : List X) → [] ≡ x ∷ xs → ⊥
nil_cons {X} x xs e = subst (λ (l : List X). elim l as (λ _. Type 0) [ [] ↦ Unit {0} | y ∷ ys ↦ ⊥ ]) e tt

module _ {L B : Type 0} (s : Boxes L B) where
  -- the boxes beside some blocks, after the block e has y more
  pub widened_stands : {G : Type 0} (h : G → Option B) (es : List (EntryView B)) (gs : List G) (e : ℕ) (g g' : G) (y : B)
      → map Some (map (λ (x : EntryView B). x.bounds) es) ≡ map h gs → slice_get gs e ≡ Some g → h g' ≡ both s (h g) (Some y) → map Some (map (λ (x : EntryView B). x.bounds) (widened s.cover e y es)) ≡ map h (set gs e g')
  widened_stands h es [] e g g' y m a u = absurd (some_none g (sym a))
  widened_stands h [] (q ∷ gs) e g g' y m a u = absurd (some_none (h q) (sym (ap (λ l. slice_get l 0) m)))
  widened_stands h (b ∷ bs) (q ∷ gs) zero g g' y m a u =
      let c : h g' ≡ Some (s.cover b.bounds y) = u ∙ ap (λ o. both s o (Some y)) (sym (ap h (some_same q g a)) ∙ sym (cons_head (Some b.bounds) (h q) (map Some (map (λ (x : EntryView B). x.bounds) bs)) (map h gs) m)) in
      λ i. sym c i ∷ cons_tail (Some b.bounds) (h q) (map Some (map (λ (x : EntryView B). x.bounds) bs)) (map h gs) m i
  widened_stands h (b ∷ bs) (q ∷ gs) (suc e) g g' y m a u =
      λ i. cons_head (Some b.bounds) (h q) (map Some (map (λ (x : EntryView B). x.bounds) bs)) (map h gs) m i ∷ widened_stands h bs gs e g g' y (cons_tail (Some b.bounds) (h q) (map Some (map (λ (x : EntryView B). x.bounds) bs)) (map h gs) m) a u i

-- a widened entry has the child that it had
pub widened_children : {B : Type 0} (cover : B → B → B) (e : ℕ) (y : B) (es : List (EntryView B)) → map (λ (x : EntryView B). x.child) (widened cover e y es) ≡ map (λ (x : EntryView B). x.child) es
widened_children cover e y [] = refl
widened_children cover zero y (b ∷ es) = refl
widened_children cover (suc e) y (b ∷ es) = ap (λ l. b.child ∷ l) (widened_children cover e y es)

pub inner_same : (L : Type 0) {B : Type 0} (a b : InnerView B) → (let l : InnerView B → Option (Node L B) = λ x. Some (AnInner x) in l a ≡ l b) → a ≡ b
inner_same L {B} a b e = ap (λ (n : Option (Node L B)). elim n as (λ _. InnerView B) [ None ↦ a | Some n ↦ elim n as (λ _. InnerView B) [ ALeaf _ ↦ a | AnInner x ↦ x ] ]) e

pub pow_above : (n k : ℕ) → 0 < n → 0 < n ^ k
pow_above n zero h = omega (arith, pow-zero n)
pow_above n (suc k) h = let b : 0 < n ^ k = pow_above n k h in let e = pow-suc n k in let p : 0 * 0 < n ^ k * n = mul-lt 0 0 (n ^ k) n b h in omega (arith, e, p)

pub leaf_inner : {L B : Type 0} (a : LeafView L) (b : InnerView B) → Some (ALeaf a) ≡ Some (AnInner b) → ⊥
leaf_inner {L} {B} a b e = subst (λ (n : Option (Node L B)). elim n as (λ _. Type 0) [ None ↦ ⊥ | Some n ↦ elim n as (λ _. Type 0) [ ALeaf _ ↦ Unit {0} | AnInner x ↦ ⊥ ] ]) e tt

pub leaf_same : {L : Type 0} (B : Type 0) (a b : LeafView L) → (let l : LeafView L → Option (Node L B) = λ x. Some (ALeaf x) in l a ≡ l b) → a ≡ b
leaf_same {L} B a b e = ap (λ (n : Option (Node L B)). elim n as (λ _. LeafView L) [ None ↦ a | Some n ↦ elim n as (λ _. LeafView L) [ ALeaf x ↦ x | AnInner _ ↦ a ] ]) e

-- The pages of the levels, with a new one at the end of each level up to M.
use Rattle.std.proofs.Common.{ℕ, suc, ◌+◌, ◌*◌, ◌/◌, ◌%◌, ◌^◌, ◌<◌, ◌≤◌, ◌≡◌, ◌≢◌, cond, nat_lt, lt-ltb, le-ltb, List, [], ◌∷◌, ◌++◌, length, sym, ap, ◌∙◌, arith, subst, ⊎_elim, inl, inr, ◌⊎◌, Some, slice_get}
use Rattle.std.proofs.lemmas.Nat.{div-add-mod'}
use Rattle.std.proofs.lemmas.Bool.{cases_eq, cases_lt}
use Rattle.std.proofs.lemmas.List.{length_push}
use Rattle.std.proofs.Math.Nat.{pow-suc, div-div-eq-div-mul}
use Rattle.legs.specs.Blocks.{level}
use Rattle.tbtree.specs.Stands.{page_at, NumbersStand}
use Rattle.legs.proofs.GroupLemmas.{some_same}
use Rattle.tbtree.proofs.BeginLemmas.{get-push_last, get-push_other}
use Rattle.tbtree.proofs.PushLemmas.{groups_push-new, groups_full}
use Rattle.tbtree.proofs.FullLemmas.{full_below, full_down, as_many_same, one_group}
use Rattle.tbtree.proofs.Widening.{pow_above}

abbrev pub grown_to : ℕ → ℕ → (ℕ → List ℕ) → ℕ → List ℕ
grown_to M count pages k = cond (nat_lt k (suc M)) (pages k ++ (count + k) ∷ []) (pages k)

module _ (M count : ℕ) (pages : ℕ → List ℕ) where
  pub grown_below : (k : ℕ) → k ≤ M → grown_to M count pages k ≡ pages k ++ (count + k) ∷ []
  grown_below k h = ap (λ b. cond b (pages k ++ (count + k) ∷ []) (pages k)) (lt-ltb k (suc M) (omega (arith, h)))

  pub grown_above : (k : ℕ) → M < k → grown_to M count pages k ≡ pages k
  grown_above k h = ap (λ b. cond b (pages k ++ (count + k) ∷ []) (pages k)) (le-ltb k (suc M) (omega (arith, h)))

  -- a page is an old one, or the new one of its level
  pub grown_page : (k j p : ℕ) → page_at (grown_to M count pages) k j ≡ Some p → (page_at pages k j ≡ Some p) ⊎ ((k ≤ M) × (j ≡ length (pages k)) × (p ≡ count + k))
  grown_page k j p a =
      ⊎_elim
      (λ (h : k < suc M).
      let l : k ≤ M = omega (arith, h) in
      let a' : slice_get (pages k ++ (count + k) ∷ []) j ≡ Some p = ap (λ l. slice_get l j) (sym (grown_below k l)) ∙ a in
      ⊎_elim
      (λ (e : j ≡ length (pages k)). inr (l, e, some_same p (count + k) (sym a' ∙ get-push_last (pages k) (count + k) j e)))
      (λ (e : j ≢ length (pages k)). inl (sym (get-push_other (pages k) (count + k) j e) ∙ a'))
      (cases_eq j (length (pages k))))
      (λ (h : suc M ≤ k). inl (ap (λ l. slice_get l j) (sym (grown_above k (omega (arith, h)))) ∙ a))
      (cases_lt k (suc M))

module _ {L : Type 0} (inner levels root count : ℕ) (runs : List (List L)) (pages : ℕ → List ℕ) (n : NumbersStand inner levels root count runs pages) where
  pub grown_within : (M k j p : ℕ) → page_at (grown_to M count pages) k j ≡ Some p → (0 < p) × (p < count + suc M)
  grown_within M k j p a =
      let z = n.page_0 in
      ⊎_elim
      (λ (o : page_at pages k j ≡ Some p). let w = n.within k j p o in (w.0, omega (arith, w.1)))
      (λ (e : (k ≤ M) × (j ≡ length (pages k)) × (p ≡ count + k)). (omega (arith, e.2, z), omega (arith, e.0, e.2)))
      (grown_page M count pages k j p a)

  pub grown_apart : (M k j k' j' p : ℕ) → page_at (grown_to M count pages) k j ≡ Some p → page_at (grown_to M count pages) k' j' ≡ Some p → (k ≡ k') × (j ≡ j')
  grown_apart M k j k' j' p a a' =
      ⊎_elim
      (λ (o : page_at pages k j ≡ Some p). ⊎_elim
      (λ (o' : page_at pages k' j' ≡ Some p). n.apart k j k' j' p o o')
      (λ (e' : (k' ≤ M) × (j' ≡ length (pages k')) × (p ≡ count + k')). absurd (let w = n.within k j p o in omega (arith, w.1, e'.2)))
      (grown_page M count pages k' j' p a'))
      (λ (e : (k ≤ M) × (j ≡ length (pages k)) × (p ≡ count + k)). ⊎_elim
      (λ (o' : page_at pages k' j' ≡ Some p). absurd (let w = n.within k' j' p o' in omega (arith, w.1, e.2)))
      (λ (e' : (k' ≤ M) × (j' ≡ length (pages k')) × (p ≡ count + k')).
      let s : k ≡ k' = omega (arith, e.2, e'.2) in
      (s, e.1 ∙ ap (λ k. length (pages k)) s ∙ sym e'.1))
      (grown_page M count pages k' j' p a'))
      (grown_page M count pages k j p a)

  -- the pages of levels up to K are in none above
  pub grown_low : (M K k j p : ℕ) → k ≤ K → page_at (grown_to M count pages) k j ≡ Some p → (k' j' : ℕ) → page_at pages (suc k') j' ≡ Some p → k' < K
  grown_low M K k j p l a k' j' b =
      ⊎_elim
      (λ (o : page_at pages k j ≡ Some p). let e = (n.apart k j (suc k') j' p o b).0 in omega (arith, e, l))
      (λ (e : (k ≤ M) × (j ≡ length (pages k)) × (p ≡ count + k)). absurd (let w = n.within (suc k') j' p b in omega (arith, w.1, e.2)))
      (grown_page M count pages k j p a)

  -- up to a level where all blocks are full, they are as many as the quotients
  module _ (K : ℕ) (h : 0 < inner) (below : K < levels) (full : length runs % inner ^ K ≡ 0) where
    pub blocks_are : (k : ℕ) → k ≤ K → length (level inner k runs) ≡ length runs / inner ^ k
    blocks_are k l = groups_full (inner ^ k) runs (pow_above inner k h) (full_below inner (length runs) h k K l full)

    pub pages_are : (k : ℕ) → k ≤ K → length (pages k) ≡ length runs / inner ^ k
    pages_are k l = n.one_each k (omega (arith, l, below)) ∙ blocks_are k l

    -- the next level has a page for each inner of them
    pub parents_are : (k : ℕ) → k < K → (length (pages (suc k)) * inner ≡ length (pages k)) × (length (pages (suc k)) ≡ length (pages k) / inner)
    parents_are k l =
        let N = length runs in
        let e : length (pages (suc k)) ≡ length (pages k) / inner = pages_are (suc k) (omega (arith, l)) ∙ ap (λ z. N / z) (pow-suc inner k) ∙ sym (div-div-eq-div-mul N (inner ^ k) inner) ∙ ap (λ z. z / inner) (sym (pages_are k (omega (arith, l)))) in
        let d : N / inner ^ k % inner ≡ 0 = (full_down inner N h k (full_below inner N h (suc k) K (omega (arith, l)) full)).1 in
        let d' : length (pages k) % inner ≡ 0 = ap (λ z. z % inner) (pages_are k (omega (arith, l))) ∙ d in
        let s : length (pages k) / inner * inner + length (pages k) % inner ≡ length (pages k) = div-add-mod' (length (pages k)) inner in
        (ap (λ z. z * inner) e ∙ omega (arith, s, d'), e)

    pub begun_level : (ys : List L) (k : ℕ) → k ≤ K → level inner k (runs ++ ys ∷ []) ≡ level inner k runs ++ (ys ∷ []) ∷ []
    begun_level ys k l = groups_push-new (inner ^ k) runs ys (pow_above inner k h) (full_below inner (length runs) h k K l full)

    pub as_many_begun : (ys : List L) (k : ℕ) → k ≤ K → length (level inner k (runs ++ ys ∷ [])) ≡ length (level inner k runs) + 1
    as_many_begun ys k l = ap length (begun_level ys k l) ∙ length_push (level inner k runs) (ys ∷ [])

    pub as_many_pages : (M : ℕ) (ys : List L) (k : ℕ) → k ≤ K → k ≤ M → length (grown_to M count pages k) ≡ length (level inner k (runs ++ ys ∷ []))
    as_many_pages M ys k l l' = ap length (grown_below M count pages k l') ∙ length_push (pages k) (count + k) ∙ ap (λ z. z + 1) (n.one_each k (omega (arith, l, below))) ∙ sym (as_many_begun ys k l)

  pub hung_numbers : (K : ℕ) (ys : List L) → 0 < inner → suc K < levels → length runs % inner ^ K ≡ 0 → ((k : ℕ) → K < k → 0 < length runs % inner ^ k) → NumbersStand inner levels root (count + suc K) (runs ++ ys ∷ []) (grown_to K count pages)
  hung_numbers K ys h below full room =
      let b : K < levels = omega (arith, below) in
      let same : (k : ℕ) → K < k → length (level inner k (runs ++ ys ∷ [])) ≡ length (level inner k runs) = λ k l. as_many_same (inner ^ k) runs ys (pow_above inner k h) (room k l) in
      record {
        page_0 = (let z = n.page_0 in omega (arith, z));
        one_each = λ k l. ⊎_elim
            (λ (u : k < suc K). as_many_pages K h b full K ys k (omega (arith, u)) (omega (arith, u)))
            (λ (u : suc K ≤ k). ap length (grown_above K count pages k (omega (arith, u))) ∙ n.one_each k l ∙ sym (same k (omega (arith, u))))
            (cases_lt k (suc K));
        no_more = λ k l. grown_above K count pages k (omega (arith, l, below)) ∙ n.no_more k l;
        below_top = λ k l.
            let w = n.below_top k l in
            ⊎_elim
            (λ (u : k < suc K). let e = as_many_begun K h b full ys k (omega (arith, u)) in omega (arith, e, w))
            (λ (u : suc K ≤ k). let e = same k (omega (arith, u)) in omega (arith, e, w))
            (cases_lt k (suc K));
        top = λ k e.
            let l : K < k = omega (arith, e, below) in
            (same k l ∙ (n.top k e).0, ap (λ l. slice_get l 0) (grown_above K count pages k l) ∙ (n.top k e).1);
        empty = λ e. absurd (omega (arith, e, below));
        within = grown_within K;
        apart = grown_apart K;
      }

  pub rooted_numbers : (K : ℕ) (ys : List L) → 1 < inner → suc K ≡ levels → length runs % inner ^ K ≡ 0 → NumbersStand inner (suc levels) (count + suc K) (count + suc (suc K)) (runs ++ ys ∷ []) (grown_to (suc K) count pages)
  rooted_numbers K ys h e full =
      let h' : 0 < inner = omega (arith, h) in
      let b : K < levels = omega (arith, e) in
      let one = (n.top K e).0 in
      let is : length runs / inner ^ K ≡ 1 = sym (blocks_are K h' b full K (omega arith)) ∙ one in
      let d : length runs / inner ^ K * inner ^ K + length runs % inner ^ K ≡ length runs = div-add-mod' (length runs) (inner ^ K) in
      let d' : 1 * inner ^ K ≡ length runs = ap (λ z. z * inner ^ K) (sym is) ∙ omega (arith, d, full) in
      let m : 0 < inner ^ K = pow_above inner K h' in
      let p : 2 * inner ^ K ≤ inner * inner ^ K = grind arith in
      let q : inner ^ K * inner ≡ inner * inner ^ K = omega arith in
      let fits : length (runs ++ ys ∷ []) ≤ inner ^ suc K = (let u = length_push runs ys in let v = pow-suc inner K in omega (arith, u, v, p, q, d', m)) in
      let last : length (level inner (suc K) (runs ++ ys ∷ [])) ≡ 1 = one_group (inner ^ suc K) (runs ++ ys ∷ []) (let u = length_push runs ys in omega (arith, u)) fits in
      let new : grown_to (suc K) count pages (suc K) ≡ (count + suc K) ∷ [] = grown_below (suc K) count pages (suc K) (omega arith) ∙ ap (λ l. l ++ (count + suc K) ∷ []) (n.no_more (suc K) (omega (arith, e))) in
      record {
        page_0 = (let z = n.page_0 in omega (arith, z));
        one_each = λ k l. ⊎_elim
            (λ (u : k < suc K). as_many_pages K h' b full (suc K) ys k (omega (arith, u)) (omega (arith, u)))
            (λ (u : suc K ≤ k).
            let z : suc K ≡ k = omega (arith, u, l, e) in
            subst (λ k. length (grown_to (suc K) count pages k) ≡ length (level inner k (runs ++ ys ∷ []))) z (ap length new ∙ sym last))
            (cases_lt k (suc K));
        no_more = λ k l. grown_above (suc K) count pages k (omega (arith, l, e)) ∙ n.no_more k (omega (arith, l));
        below_top = λ k l.
            let u : k ≤ K = omega (arith, l, e) in
            let w = as_many_begun K h' b full ys k u in
            ⊎_elim
            (λ (z : k ≡ K). let o : length (level inner k runs) ≡ 1 = ap (λ k. length (level inner k runs)) z ∙ one in omega (arith, w, o))
            (λ (z : k ≢ K). let o = n.below_top k (omega (arith, u, z, e)) in omega (arith, w, o))
            (cases_eq k K);
        top = λ k l.
            let z : suc K ≡ k = omega (arith, l, e) in
            subst (λ k. (length (level inner k (runs ++ ys ∷ [])) ≡ 1) × (page_at (grown_to (suc K) count pages) k 0 ≡ Some (count + suc K))) z (last, ap (λ l. slice_get l 0) new);
        empty = λ z. absurd (omega (arith, z));
        within = grown_within (suc K);
        apart = grown_apart (suc K);
      }

-- The root gets a right neighbour: a new root is made above the two.
use Rattle.std.proofs.Common.{ℕ, zero, suc, ◌+◌, ◌*◌, ◌/◌, ◌%◌, ◌^◌, ◌<◌, ◌≤◌, ◌≡◌, ◌≢◌, List, [], ◌∷◌, ◌++◌, take, drop, map, length, get_or, sym, ap, ◌∙◌, arith, subst, ⊎_elim, Some, slice_get, length-take}
use Rattle.std.proofs.lemmas.Nat.{div-add-mod'}
use Rattle.std.proofs.Math.Nat.{pow-suc, pow-zero}
use Rattle.std.proofs.lemmas.Bool.{cases_eq, cases_lt}
use Rattle.std.proofs.lemmas.List.{take_all, length-map}
use Rattle.std.proofs.lemmas.Option.{slice_get-get_or, slice_get_within}
use Rattle.legs.specs.Blocks.{block, level, joined}
use Rattle.legs.specs.Hull.{Boxes, hull, hull_of}
use Rattle.tbtree.proofs.LawfulBoxes.{AreLawful}
use Rattle.tbtree.specs.Nodes.{boxes, Pages, ALeaf, AnInner, Adds, Covers, HasCover, cover_of_page}
use Rattle.tbtree.specs.Stands.{page_at, leaf_of, marks, owner, NumbersStand, InnerStands, LevelStands}
use Rattle.tbtree.specs.Way.{Hanging, Hung}
use Rattle.legs.proofs.GroupLemmas.{some_none, some_same, group_is, joined_blocks}
use Rattle.tbtree.proofs.BeginLemmas.{get-push_other}
use Rattle.tbtree.proofs.HullLemmas.{cover_joined, hull_alone, hull_of_one, hull_some, cover_some}
use Rattle.tbtree.proofs.PagesLemmas.{grown_to, grown_below, grown_above, blocks_are, begun_level, rooted_numbers}
use Rattle.tbtree.proofs.Widening.{pow_above}
use Rattle.tbtree.proofs.HangLemmas.{below_level, same_leaves}
use Rattle.tbtree.proofs.WiderLemmas.{becomes_held}

one_is : {X : Type 0} (xs : List X) (x : X) → length xs ≡ 1 → slice_get xs 0 ≡ Some x → xs ≡ x ∷ []
one_is [] x e a = absurd (omega (arith, e))
one_is (z ∷ []) x e a = ap (λ z. z ∷ []) (some_same z x a)
one_is (z ∷ z' ∷ xs) x e a = absurd (omega (arith, e))

first_block : {X : Type 0} (n : ℕ) (xs : List X) → block n 0 xs ≡ take n xs
first_block n xs = let z : 0 * n ≡ 0 = omega arith in ap (λ k. take n (drop k xs)) z

module _ {L B : Type 0} (s : Boxes L B) (laws : AreLawful s) (feature : L → ℕ) (inner levels root : ℕ) where
  -- the number of leaves where the root is of level K and full
  full_root : (K count : ℕ) (runs : List (List L)) (pages : ℕ → List ℕ) → 0 < inner → suc K ≡ levels → NumbersStand inner levels root count runs pages → length runs % inner ^ K ≡ 0 → length runs ≡ inner ^ K
  full_root K count runs pages h e n full =
      let is : length runs / inner ^ K ≡ 1 = sym (blocks_are inner levels root count runs pages n K h (omega (arith, e)) full K (omega arith)) ∙ (n.top K e).0 in
      let d : length runs / inner ^ K * inner ^ K + length runs % inner ^ K ≡ length runs = div-add-mod' (length runs) (inner ^ K) in
      let d' : 1 * inner ^ K ≡ length runs = ap (λ z. z * inner ^ K) (sym is) ∙ omega (arith, d, full) in
      omega (arith, d')

  -- what the old root has is all that there was
  root_cover : (K : ℕ) (old mid : Pages L B) (runs : List (List L)) (ys : List L) (pages : ℕ → List ℕ) (count : ℕ) (f : B) → 0 < inner → suc K ≡ levels → Hanging s feature inner levels root old runs ys pages count K → Covers s old root f mid → hull_of s runs ≡ Some f
  root_cover zero old mid runs ys pages count f h e v c =
      let n = v.numbers in
      let one : length runs ≡ 1 = full_root 0 count runs pages h e n v.full ∙ pow-zero inner in
      let t = n.top 0 e in
      let lp : length (pages 0) ≡ 1 = n.one_each 0 (omega (arith, e)) ∙ t.0 in
      let r = get_or runs 0 [] in
      let is : slice_get runs 0 ≡ Some r = slice_get-get_or runs 0 [] (omega (arith, one)) in
      let a : slice_get (pages 0 ++ count ∷ []) 0 ≡ Some root = get-push_other (pages 0) count 0 (λ u. omega (arith, lp, u)) ∙ t.1 in
      let b : slice_get (runs ++ ys ∷ []) 0 ≡ Some r = get-push_other runs ys 0 (λ u. omega (arith, one, u)) ∙ is in
      let leaf = v.leaves 0 root r a b in
      hull_of_one s runs r one is ∙ ap (cover_of_page s) (some_same _ _ (some_same _ _ (sym leaf ∙ c.is))) ∙ c.cover
  root_cover (suc k) old mid runs ys pages count f h e v c =
      let n = v.numbers in
      let N : length runs ≡ inner ^ k * inner = full_root (suc k) count runs pages h e n v.full ∙ pow-suc inner k in
      let t = n.top (suc k) e in
      let g = v.inners k 0 root t.1 in
      let z : 0 * inner ^ k ≡ 0 = omega arith in
      let all : joined (block inner 0 (level inner k runs)) ≡ runs =
      ap joined (first_block inner (level inner k runs)) ∙ joined_blocks inner (inner ^ k) 0 runs (pow_above inner k h) ∙ ap (λ d. take (inner * inner ^ k) (drop d runs)) z
      ∙ take_all (inner * inner ^ k) runs (let m : inner ^ k * inner ≡ inner * inner ^ k = omega arith in omega (arith, N, m)) in
      ap (hull_of s) (sym all) ∙ sym (cover_joined s laws (boxes g.page) (block inner 0 (level inner k runs)) g.boxes_are) ∙ ap (cover_of_page s) (some_same _ _ (some_same _ _ (sym g.is ∙ c.is))) ∙ c.cover

  -- and that is something
  pub root_has : (K : ℕ) (old : Pages L B) (runs : List (List L)) (ys : List L) (pages : ℕ → List ℕ) (count : ℕ) → 0 < inner → suc K ≡ levels → Hanging s feature inner levels root old runs ys pages count K → HasCover s old root
  root_has zero old runs ys pages count h e v =
      let n = v.numbers in
      let one : length runs ≡ 1 = full_root 0 count runs pages h e n v.full ∙ pow-zero inner in
      let t = n.top 0 e in
      let lp : length (pages 0) ≡ 1 = n.one_each 0 (omega (arith, e)) ∙ t.0 in
      let r = get_or runs 0 [] in
      let is : slice_get runs 0 ≡ Some r = slice_get-get_or runs 0 [] (omega (arith, one)) in
      let a : slice_get (pages 0 ++ count ∷ []) 0 ≡ Some root = get-push_other (pages 0) count 0 (λ u. omega (arith, lp, u)) ∙ t.1 in
      let b : slice_get (runs ++ ys ∷ []) 0 ≡ Some r = get-push_other runs ys 0 (λ u. omega (arith, one, u)) ∙ is in
      let c = hull_some s r (λ u. v.filled 0 (is ∙ ap Some u)) in
      record { node = ALeaf (leaf_of (owner feature r) (marks feature (runs ++ ys ∷ []) (pages 0 ++ count ∷ [])) 0 r); is = v.leaves 0 root r a b; box = c.0; cover = c.1 }
  root_has (suc k) old runs ys pages count h e v =
      let n = v.numbers in
      let t = n.top (suc k) e in
      let g = v.inners k 0 root t.1 in
      let more : 1 < length (level inner k runs) = n.below_top k (omega (arith, e)) in
      let some : 0 < length (block inner 0 (level inner k runs)) = (let u = ap length (first_block inner (level inner k runs)) in let m = length-take inner (level inner k runs) in omega (arith, u, m, h, more)) in
      let as_many = sym (length-map (boxes g.page) Some) ∙ ap length g.boxes_are ∙ length-map (block inner 0 (level inner k runs)) (hull_of s) in
      let c = cover_some s (boxes g.page) (omega (arith, as_many, some)) in
      record { node = AnInner g.page; is = g.is; box = c.0; cover = c.1 }

  pub hang_root : (old mid new : Pages L B) (K j p q height : ℕ) (f box : B) (runs : List (List L)) (ys : List L) (pages : ℕ → List ℕ) (count : ℕ) → 1 < inner → suc K ≡ levels → height ≡ suc K → Covers s old root f mid
      → Adds mid (AnInner (record { level = height; entries = record { child = root; bounds = f } ∷ record { child = p; bounds = box } ∷ [] })) new q → hull s ys ≡ Some box → p ≡ count + K → j ≡ length runs / inner ^ K → Hanging s feature inner levels root old runs ys pages count K → Hung s feature inner (suc levels) q new runs ys (pages 0) count
  hang_root old mid new K j p q height f box runs ys pages count h e eh c w eb ep ej v =
      let n = v.numbers in
      let after = runs ++ ys ∷ [] in
      let h' : 0 < inner = omega (arith, h) in
      let b : K < levels = omega (arith, e) in
      let t = n.top K e in
      let lm : mid.count ≡ count + suc K = c.counted ∙ v.as_many in
      let is : q ≡ count + suc K = w.number ∙ lm in
      let len : new.count ≡ count + suc (suc K) = w.counted ∙ ap (λ z. z + 1) lm ∙ omega arith in
      let same : (r : ℕ) → r < count + suc K → ((k i : ℕ) → page_at pages (suc k) i ≡ Some r → k < K) → new.at r ≡ old.at r = λ r l _.
      w.becomes.rest r (λ u. let z = w.number in omega (arith, lm, l, z, u)) ∙ c.rest r in
      let new_page : new.at q ≡ Some (Some (AnInner (record { level = height; entries = record { child = root; bounds = f } ∷ record { child = p; bounds = box } ∷ [] }))) = w.becomes.now in
      let gK : grown_to (suc K) count pages K ≡ root ∷ p ∷ [] = grown_below (suc K) count pages K (omega arith) ∙ ap (λ l. l ++ (count + K) ∷ []) (one_is (pages K) root (n.one_each K b ∙ t.0) t.1) ∙ ap (λ z. root ∷ z ∷ []) (sym ep) in
      let N : length runs ≡ inner ^ K = full_root K count runs pages h' e n v.full in
      let m : 0 < inner ^ K = pow_above inner K h' in
      let whole : slice_get (level inner K runs) 0 ≡ Some runs = group_is (inner ^ K) runs 0 m (let z : 0 * inner ^ K ≡ 0 = omega arith in omega (arith, z, N, m)) ∙ ap Some (first_block (inner ^ K) runs ∙ take_all (inner ^ K) runs (omega (arith, N))) in
      let lv : level inner K after ≡ runs ∷ (ys ∷ []) ∷ [] = begun_level inner levels root count runs pages n K h' b v.full ys K (omega arith) ∙ ap (λ l. l ++ (ys ∷ []) ∷ []) (one_is (level inner K runs) runs t.0 whole) in
      let cs : block inner 0 (grown_to (suc K) count pages K) ≡ root ∷ p ∷ [] = ap (block inner 0) gK ∙ first_block inner (root ∷ p ∷ []) ∙ take_all inner (root ∷ p ∷ []) (omega (arith, h)) in
      let bs : block inner 0 (level inner K after) ≡ runs ∷ (ys ∷ []) ∷ [] = ap (block inner 0) lv ∙ first_block inner (runs ∷ (ys ∷ []) ∷ []) ∙ take_all inner (runs ∷ (ys ∷ []) ∷ []) (omega (arith, h)) in
      let covered : hull_of s runs ≡ Some f = root_cover K old mid runs ys pages count f h' e v c in
      let top_page : InnerStands s new q (suc K) (block inner 0 (grown_to (suc K) count pages K)) (block inner 0 (level inner K after)) = record {
        page = record { level = height; entries = record { child = root; bounds = f } ∷ record { child = p; bounds = box } ∷ [] };
        is = new_page;
        height_is = eh;
        children_are = sym cs;
        boxes_are = (λ i. sym covered i ∷ sym (hull_alone s ys box eb) i ∷ []) ∙ ap (map (hull_of s)) (sym bs);
      } in
      let top_pages : grown_to (suc K) count pages (suc K) ≡ q ∷ [] = grown_below (suc K) count pages (suc K) (omega arith) ∙ ap (λ l. l ++ (count + suc K) ∷ []) (n.no_more (suc K) (omega (arith, e))) ∙ ap (λ z. z ∷ []) (sym is) in
      let at_level : LevelStands s new inner after (grown_to (suc K) count pages) K = λ i r a.
      let a' : slice_get (q ∷ []) i ≡ Some r = ap (λ l. slice_get l i) (sym top_pages) ∙ a in
      let l : i < 1 = slice_get_within (q ∷ []) i r a' in
      let z : 0 ≡ i = omega (arith, l) in
      let u : q ≡ r = some_same q r (ap (slice_get (q ∷ [])) z ∙ a') in
      subst (λ i. InnerStands s new r (suc K) (block inner i (grown_to (suc K) count pages K)) (block inner i (level inner K after))) z
      (subst (λ r. InnerStands s new r (suc K) (block inner 0 (grown_to (suc K) count pages K)) (block inner 0 (level inner K after))) u top_page) in
      record {
        pages = grown_to (suc K) count pages;
        leaves_are = grown_below (suc K) count pages 0 (omega arith) ∙ ap (λ z. pages 0 ++ z ∷ []) (omega arith);
        tree = record {
          held = λ r l e. (let z = becomes_held mid new q r _ w.becomes e in v.held r (let k = v.as_many in let u = z.1 in omega (arith, l, len, is, k, u)) (sym (c.rest r) ∙ z.0));
          numbers = subst (λ z. NumbersStand inner (suc levels) q z after (grown_to (suc K) count pages)) (sym len)
              (subst (λ z. NumbersStand inner (suc levels) z (count + suc (suc K)) after (grown_to (suc K) count pages)) (sym is) (rooted_numbers inner levels root count runs pages n K ys h e v.full));
          leaves = same_leaves s feature inner levels root K (suc K) old new runs ys pages count v same;
          inners = λ k. ⊎_elim
              (λ (l : k < K). below_level s feature inner levels root K (suc K) old new runs ys pages count h' b (omega arith) v same k l)
              (λ (l : K ≤ k). ⊎_elim
              (λ (z : K ≡ k). subst (λ k. LevelStands s new inner after (grown_to (suc K) count pages) k) z at_level)
              (λ (z : K ≢ k). λ i r a. absurd (some_none r (sym a ∙ ap (λ l. slice_get l i) (grown_above (suc K) count pages (suc k) (omega (arith, l, z)) ∙ n.no_more (suc k) (omega (arith, l, e))))))
              (cases_eq K k))
              (cases_lt k K);
        };
      }

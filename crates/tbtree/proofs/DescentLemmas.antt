-- The whole way down: the pages that are met, how many, and what they have.
use Rattle.std.proofs.Common.{ℕ, zero, suc, ◌+◌, ◌-◌, ◌≡◌, ◌≢◌, ◌<◌, ◌≤◌, Bool, true, false, cond, lt-ltb, le-ltb, List, [], ◌∷◌, ◌++◌, map, length, refl, sym, ap, ◌∙◌, arith, ⊎_elim, Option, Some, None, slice_get, get_or}
use Rattle.std.specs.List.{zip, filter, flat_map, count_by, All}
use Rattle.std.proofs.lemmas.Bool.{cases_eq, cases_lt}
use Rattle.std.proofs.lemmas.List.{length-append, length-map, append-nil}
use Rattle.std.proofs.lemmas.List.Elements.{filter-append, All-nil, All-cons, All-map, All-filter, All-same}
use Rattle.std.proofs.lemmas.List.Sums.{length-filter, count_by-le-length, sum_by-cons}
use Rattle.std.proofs.lemmas.Option.{slice_get_within, slice_get-get_or}
use Rattle.legs.specs.Blocks.{level, joined}
use Rattle.legs.specs.Costs.{some_meets, block_meets, met_at, met, cost}
use Rattle.legs.specs.Hull.{IsPruning, Boxes, both, hull}
use Rattle.tbtree.specs.Descent.{children_met, node_at, pages_met, met_count, hits, legs_in, legs_met, HasInner}
use Rattle.tbtree.specs.Nodes.{Pages, HasLeaf}
use Rattle.tbtree.specs.Stands.{page_at, TreeStands}
use Rattle.tbtree.proofs.LawfulBoxes.{AreLawful}
use Rattle.tbtree.proofs.PageCounts.{pages_to, few_in_all}
use Rattle.tbtree.proofs.PlaceLemmas.{as_many}
use Rattle.tbtree.proofs.BlockLevels.{level_0, one_above, few_below}
use Rattle.tbtree.proofs.OrdinalOrder.{all_from_get}
use Rattle.tbtree.proofs.StepDown.{hit, page, paged, met_on_level, level_down, root_down, both_miss, node_above, zip_get}

count-zip : {P Q : Type 0} (t : Q → Bool) (ps : List P) (qs : List Q) → length ps ≡ length qs → count_by (λ (m : P × Q). t m.1) (zip ps qs) ≡ count_by t qs
count-zip t [] [] e = refl
count-zip t [] (q ∷ qs) e = absurd (omega (arith, e))
count-zip t (p ∷ ps) [] e = absurd (omega (arith, e))
count-zip {P} {Q} t (p ∷ ps) (q ∷ qs) e =
    let a = sum_by-cons (λ (m : P × Q). cond (t m.1) 1 0) (p, q) (zip ps qs) in
    let b = sum_by-cons (λ q. cond (t q) 1 0) q qs in
    let c = count-zip t ps qs (omega (arith, e)) in
    omega (arith, a, b, c)

filled : {X : Type 0} (inner k : ℕ) (xs : List X) → length (level inner k xs) ≡ 1 → 0 < length xs
filled inner k [] e = absurd (omega (arith, e))
filled inner k (x ∷ xs) e = omega arith

costs : {L B : Type 0} (s : Boxes L B) (meets : B → Bool) (inner : ℕ) (runs : List (List L)) → 0 < length runs → 1 + met s meets inner runs (length runs) ≡ cost s meets inner runs
costs s meets inner [] h = absurd (omega (arith, h))
costs s meets inner (r ∷ rs) h = refl

-- the one run of a list
one_run : {X : Type 0} (rs : List (List X)) → length rs ≡ 1 → (r : List X) × (slice_get rs 0 ≡ Some r) × (r ≡ joined rs)
one_run [] e = absurd (omega (arith, e))
one_run (r ∷ []) e = (r, refl, sym (append-nil r))
one_run (r ∷ q ∷ rs) e = absurd (omega (arith, e))

module _ {L B : Type 0} (s : Boxes L B) (laws : AreLawful s) (meets : B → Bool) (prune : IsPruning s meets) where
  -- no leg of a leaf that does not meet does
  none_meets : (ls : List L) → some_meets s meets (hull s ls) ≡ false → filter (λ l. meets (s.of l)) ls ≡ []
  none_meets [] e = refl
  none_meets (l ∷ ls) e =
      let m = both_miss s laws meets prune (Some (s.of l)) (hull s ls) e in
      ap (λ v. cond v (l ∷ filter (λ l. meets (s.of l)) ls) (filter (λ l. meets (s.of l)) ls)) m.0 ∙ none_meets ls m.1

  both-none : (b : Option B) → both s b None ≡ b
  both-none None = refl
  both-none (Some b) = refl

  module _ (nodes : Pages L B) where
    abbrev found_at : ℕ → List L
    found_at p = hits s meets nodes p

    in_leaves : (ps : List ℕ) (rs : List (List L)) → length ps ≡ length rs → ((i p : ℕ) (r : List L) → slice_get ps i ≡ Some p → slice_get rs i ≡ Some r → legs_in (node_at nodes p) ≡ r)
        → flat_map found_at (map (page s laws meets prune) (filter (hit s laws meets prune) (zip ps (map (λ r. r ∷ []) rs)))) ≡ filter (λ l. meets (s.of l)) (joined rs)
    in_leaves [] [] e h = refl
    in_leaves [] (r ∷ rs) e h = absurd (omega (arith, e))
    in_leaves (p ∷ ps) [] e h = absurd (omega (arith, e))
    in_leaves (p ∷ ps) (r ∷ rs) e h =
        let test : L → Bool = λ l. meets (s.of l) in
        let kept = filter (hit s laws meets prune) (zip ps (map (λ r. r ∷ []) rs)) in
        let on : flat_map found_at (map (page s laws meets prune) kept) ≡ filter test (joined rs) = in_leaves ps rs (omega (arith, e)) (λ i. h (suc i)) in
        let this : found_at p ≡ filter test r = ap (filter test) (h 0 p r refl refl) in
        let split : filter test (r ++ joined rs) ≡ filter test r ++ filter test (joined rs) = filter-append test r (joined rs) in
        (elim (block_meets s meets (r ∷ [])) as (λ v. block_meets s meets (r ∷ []) ≡ v → flat_map found_at (map (page s laws meets prune) (cond v ((p, r ∷ []) ∷ kept) kept)) ≡ filter test (r ++ joined rs)) [
          | true ↦ λ t. ap (λ l. l ++ flat_map found_at (map (page s laws meets prune) kept)) this ∙ ap (λ l. filter test r ++ l) on ∙ sym split
          | false ↦ λ t. on ∙ sym (split ∙ ap (λ l. l ++ filter test (joined rs)) (none_meets r (ap (some_meets s meets) (sym (both-none (hull s r))) ∙ t)))
        ]) refl

  module _ (nodes : Pages L B) (feature : L → ℕ) (inner levels root : ℕ) (h : 1 < inner) (runs : List (List L)) (pages : ℕ → List ℕ)
      (tree : TreeStands s feature inner levels root nodes runs pages) where
    some_block : 0 < inner
    some_block = omega (arith, h)

    abbrev met_on : ℕ → List ℕ
    met_on k = met_on_level s laws meets prune nodes inner levels root nodes.count some_block runs pages tree.numbers tree.inners k

    -- the pages met below the root
    descends : (n k : ℕ) → n + suc (suc k) ≡ levels → pages_met meets nodes root (suc n) ≡ met_on k
    descends zero k e = root_down s laws meets prune nodes inner levels root nodes.count some_block runs pages tree.numbers tree.inners k (sym (omega arith) ∙ e)
    descends (suc n) k e =
        ap (flat_map (children_met meets nodes)) (descends n (suc k) (omega (arith, e)))
        ∙ level_down s laws meets prune nodes inner levels root nodes.count some_block runs pages tree.numbers tree.inners k (omega (arith, e))

    met_counts : (k : ℕ) → suc k < levels → length (met_on k) ≡ met_at s meets inner runs k
    met_counts k l =
        let paged_k = paged s laws meets prune nodes inner levels root nodes.count some_block runs pages tree.numbers tree.inners k in
        length-map (filter (hit s laws meets prune) paged_k) (page s laws meets prune) ∙ length-filter (hit s laws meets prune) paged_k
        ∙ count-zip (block_meets s meets) (pages k) (level inner k runs) (tree.numbers.one_each k (omega (arith, l)))
        ∙ sym (ap (λ v. cond v (count_by (block_meets s meets) (level inner k runs)) 0) (lt-ltb 1 (length (level inner k runs)) (tree.numbers.below_top k l)))

    -- what has been asked for, and what is left
    asked_so_far : (n k : ℕ) → n + suc k ≡ levels → met_count meets nodes root (suc n) + met s meets inner runs k ≡ 1 + met s meets inner runs (levels - 1)
    asked_so_far zero k e = let w : met s meets inner runs k ≡ met s meets inner runs (levels - 1) = ap (met s meets inner runs) (omega (arith, e)) in omega (arith, w)
    asked_so_far (suc n) k e =
        let on = asked_so_far n (suc k) (omega (arith, e)) in
        let d : length (pages_met meets nodes root (suc n)) ≡ met_at s meets inner runs k = ap length (descends n k (omega (arith, e))) ∙ met_counts k (omega (arith, e)) in
        omega (arith, on, d)

    pub top_block : (T : ℕ) → suc T ≡ levels → length (level inner T runs) ≡ 1
    top_block T e = (tree.numbers.top T e).0

    pub some_run : (T : ℕ) → suc T ≡ levels → 0 < length runs
    some_run T e = filled inner T runs (top_block T e)

    -- the levels above the root have one block
    met_above : (d T : ℕ) → suc T ≡ levels → met s meets inner runs (d + T) ≡ met s meets inner runs T
    met_above zero T e = ap (met s meets inner runs) (omega arith)
    met_above (suc d) T e =
        let o : length (level inner (d + T) runs) ≡ 1 = one_above inner h runs T (d + T) (some_run T e) (top_block T e) (omega arith) in
        let z : met_at s meets inner runs (d + T) ≡ 0 = ap (λ v. cond v (count_by (block_meets s meets) (level inner (d + T) runs)) 0) (le-ltb 1 (length (level inner (d + T) runs)) (omega (arith, o))) in
        ap (met s meets inner runs) (let e : suc d + T ≡ suc (d + T) = omega arith in e) ∙ (let on = met_above d T e in omega (arith, on, z))

    pub few_levels : (T : ℕ) → suc T ≡ levels → T ≤ length runs
    few_levels zero e = omega arith
    few_levels (suc t) e = let b = few_below inner h runs t (tree.numbers.below_top t (omega (arith, e))) in omega (arith, b)

    -- how many pages the whole way has
    pub asks_all : 0 < levels → met_count meets nodes root levels ≡ cost s meets inner runs
    asks_all l =
        let T = levels - 1 in
        let e : suc T ≡ levels = omega (arith, l) in
        let a = asked_so_far T 0 (omega (arith, l)) in
        let b = met_above (length runs - T) T e in
        let f = few_levels T e in
        let c : met s meets inner runs (length runs - T + T) ≡ met s meets inner runs (length runs) = ap (met s meets inner runs) (omega (arith, f)) in
        let w : met_count meets nodes root levels ≡ met_count meets nodes root (suc T) = ap (met_count meets nodes root) (sym e) in
        let z : met_count meets nodes root levels ≡ 1 + met s meets inner runs (length runs) = omega (arith, a, b, c, w) in
        z ∙ costs s meets inner runs (some_run T e)

    legs_at : (i p : ℕ) (r : List L) → slice_get (pages 0) i ≡ Some p → slice_get runs i ≡ Some r → legs_in (node_at nodes p) ≡ r
    legs_at i p r e f = ap legs_in (node_above nodes p (tree.numbers.within 0 i p e).0 ∙ tree.leaves i p r e f)

    legs_met_at : (l : ℕ) → 0 < l → legs_met s meets nodes root l ≡ flat_map (hits s meets nodes) (pages_met meets nodes root (l - 1))
    legs_met_at zero h = absurd (omega (arith, h))
    legs_met_at (suc l) h = ap (λ n. flat_map (hits s meets nodes) (pages_met meets nodes root n)) (let z : l ≡ suc l - 1 = omega arith in z)

    -- the legs that the whole way finds
    pub finds : 0 < levels → flat_map (hits s meets nodes) (pages_met meets nodes root (levels - 1)) ≡ filter (λ l. meets (s.of l)) (joined runs)
    finds l =
        let f = flat_map (hits s meets nodes) in
        ⊎_elim
        (λ (e : levels ≡ 1).
        ap (λ n. f (pages_met meets nodes root n)) (let z : levels - 1 ≡ 0 = omega (arith, e) in z)
        ∙ append-nil (hits s meets nodes root)
        ∙ (let t = tree.numbers.top 0 (sym e) in
        let o = one_run runs (sym (length-map runs (λ r. r ∷ [])) ∙ sym (ap length (level_0 inner runs)) ∙ t.0) in
        ap (filter (λ l. meets (s.of l))) (legs_at 0 root o.0 t.1 o.1 ∙ o.2)))
        (λ (u : levels ≢ 1).
        let n = levels - 2 in
        let e : n + 2 ≡ levels = omega (arith, l, u) in
        ap (λ n. f (pages_met meets nodes root n)) (let z : levels - 1 ≡ suc n = omega (arith, e) in z)
        ∙ ap f (descends n 0 e)
        ∙ ap (λ bs. f (map (page s laws meets prune) (filter (hit s laws meets prune) (zip (pages 0) bs)))) (level_0 inner runs)
        ∙ in_leaves nodes (pages 0) runs (as_many inner levels root nodes.count runs pages tree.numbers) legs_at)
        (cases_eq levels 1)

    inner_at : (k j p : ℕ) → page_at pages (suc k) j ≡ Some p → HasInner nodes p (suc k)
    inner_at k j p e =
        let i = tree.inners k j p e in
        record { above = (tree.numbers.within (suc k) j p e).0; page = i.page; is = i.is; level_is = i.height_is }

    -- the pages met are those of their level
    met_all : (P : ℕ → Type 0) (k : ℕ) → ((j p : ℕ) → page_at pages k j ≡ Some p → P p) → All P (met_on k)
    met_all P k h =
        let paged_k = paged s laws meets prune nodes inner levels root nodes.count some_block runs pages tree.numbers tree.inners k in
        All-map P (page s laws meets prune) (filter (hit s laws meets prune) paged_k)
        (All-filter (hit s laws meets prune) (λ m. P m.0) paged_k (all_from_get (λ m. P m.0) paged_k (λ j m e. h j m.0 (zip_get (pages k) (level inner k runs) j m e).0)))

    -- each page on the way is an inner page of its height
    pub inners_met : (n k : ℕ) → n + suc (suc k) ≡ levels → All (λ p. HasInner nodes p (suc k)) (pages_met meets nodes root n)
    inners_met zero k e = All-cons (λ p. HasInner nodes p (suc k)) root [] (inner_at k 0 root (tree.numbers.top (suc k) (omega (arith, e))).1) (All-nil (λ p. HasInner nodes p (suc k)))
    inners_met (suc n) k e = All-same (λ p. HasInner nodes p (suc k)) (pages_met meets nodes root (suc n)) (met_on (suc k)) (descends n (suc k) (omega (arith, e))) (met_all (λ p. HasInner nodes p (suc k)) (suc k) (inner_at k))

    leaf_at : (j p : ℕ) → page_at pages 0 j ≡ Some p → HasLeaf nodes p
    leaf_at j p e =
        let l : j < length runs = (let w = slice_get_within (pages 0) j p e in let a = as_many inner levels root nodes.count runs pages tree.numbers in omega (arith, w, a)) in
        record { above = (tree.numbers.within 0 j p e).0; leaf = _; is = tree.leaves j p (get_or runs j []) e (slice_get-get_or runs j [] l) }

    -- and each at the end a leaf
    pub leaves_met : 0 < levels → All (λ p. HasLeaf nodes p) (pages_met meets nodes root (levels - 1))
    leaves_met l =
        let P : ℕ → Type 0 = λ p. HasLeaf nodes p in
        ⊎_elim
        (λ (e : levels ≡ 1). All-same P (pages_met meets nodes root (levels - 1)) (root ∷ []) (ap (pages_met meets nodes root) (let z : levels - 1 ≡ 0 = omega (arith, e) in z))
        (All-cons P root [] (leaf_at 0 root (tree.numbers.top 0 (sym e)).1) (All-nil P)))
        (λ (u : levels ≢ 1).
        let n = levels - 2 in
        let e : n + 2 ≡ levels = omega (arith, l, u) in
        All-same P (pages_met meets nodes root (levels - 1)) (met_on 0) (ap (pages_met meets nodes root) (let z : levels - 1 ≡ suc n = omega (arith, e) in z) ∙ descends n 0 e) (met_all P 0 leaf_at))
        (cases_eq levels 1)

    -- no more are met than there are
    met_within : (n k : ℕ) → n + suc k ≡ levels → met_count meets nodes root (suc n) + length (pages_to pages k) ≤ length (pages_to pages levels)
    met_within zero k e =
        let at_top : suc k ≡ levels = omega (arith, e) in
        let one : length (pages k) ≡ 1 = tree.numbers.one_each k (omega (arith, e)) ∙ (tree.numbers.top k at_top).0 in
        let all : length (pages_to pages levels) ≡ length (pages_to pages k ++ pages k) = ap (λ l. length (pages_to pages l)) (sym at_top) in
        let sum = length-append (pages_to pages k) (pages k) in
        omega (arith, one, all, sum)
    met_within (suc n) k e =
        let on = met_within n (suc k) (omega (arith, e)) in
        let d : length (pages_met meets nodes root (suc n)) ≡ met_at s meets inner runs k = ap length (descends n k (omega (arith, e))) ∙ met_counts k (omega (arith, e)) in
        let c = count_by-le-length (block_meets s meets) (level inner k runs) in
        let o = tree.numbers.one_each k (omega (arith, e)) in
        let m : met_at s meets inner runs k ≡ count_by (block_meets s meets) (level inner k runs) =
        ap (λ v. cond v (count_by (block_meets s meets) (level inner k runs)) 0) (lt-ltb 1 (length (level inner k runs)) (tree.numbers.below_top k (omega (arith, e)))) in
        let sum = length-append (pages_to pages k) (pages k) in
        omega (arith, on, d, c, o, m, sum)

    pub fewer : (n : ℕ) → n ≤ levels → met_count meets nodes root n < nodes.count
    fewer zero h = tree.numbers.page_0
    fewer (suc n) h =
        let w = met_within n (levels - suc n) (omega (arith, h)) in
        let f = few_in_all inner levels root nodes.count runs pages tree.numbers levels in
        omega (arith, w, f)

    -- what all leaves that are met have
    pub legs_found : legs_met s meets nodes root levels ≡ filter (λ l. meets (s.of l)) (joined runs)
    legs_found =
        ⊎_elim
        (λ (h : 0 < levels). legs_met_at levels h ∙ finds h)
        (λ (h : levels ≤ 0). let z : levels ≡ 0 = omega (arith, h) in
        ap (legs_met s meets nodes root) z ∙ sym (ap (λ rs. filter (λ l. meets (s.of l)) (joined rs)) (tree.numbers.empty z).0))
        (cases_lt 0 levels)

    pub all_asked : met_count meets nodes root levels ≡ cost s meets inner runs
    all_asked =
        ⊎_elim
        (λ (h : 0 < levels). asks_all h)
        (λ (h : levels ≤ 0). let z : levels ≡ 0 = omega (arith, h) in
        ap (met_count meets nodes root) z ∙ sym (ap (cost s meets inner) (tree.numbers.empty z).0))
        (cases_lt 0 levels)

-- What a check found, and what its pages hold.
use Rattle.std.proofs.Common.{◌≡◌, ℕ, zero, suc, ◌-◌, ◌<◌, List, [], ◌∷◌, length, map, get_or, Some, None, slice_get, refl, sym, ap, ◌∙◌, arith, subst}
use Rattle.std.specs.List.{All, range_with_len}
use Rattle.std.specs.List.Sorted.{IsPermutation, IsNonDecreasingBy}
use Rattle.std.proofs.lemmas.List.Elements.{All-head, All-tail, All-nil, All-cons, All-append, All-weaker}
use Rattle.std.proofs.lemmas.List.Sorted.{IsPermutation-trans, IsPermutation-sym, IsPermutation-map, All-permutation}
use Rattle.legs.specs.Blocks.{joined}
use Rattle.legs.specs.Boxes.{BoxView}
use Rattle.legs.specs.Legs.{LegView}
use Rattle.legs.specs.declared.tracks.Track.{Track}
use Rattle.chains.specs.Chains.{AreHeld}
use Rattle.treecheck.specs.Check.{next_in, legs_on, first_on, AreLeavesFrom, AreChains, IsChecked, IsTreeOver}
use Rattle.tbtree.proofs.RisingLists.{in_order_once}
use Rattle.tbtree.specs.Turn.{first_ordinal, IsPast, IsRising}
use Rattle.tbtree.specs.Nodes.{Pages}
use Rattle.tbtree.specs.declared.tree.Place.{Place}
use Rattle.tbtree.specs.declared.tree.TbTree.{TbTree}
use Rattle.treecheck.specs.Ordering.{IsSurveyWhole, NameLast}
use Rattle.treecheck.specs.Walking.{IsMet, Surveys}
use Rattle.treecheck.specs.declared.walking.Met.{Met}
use Rattle.treecheck.specs.declared.walking.Survey.{Survey}
use Rattle.treecheck.proofs.SurveyLemmas.{get_at}
use Rattle.treecheck.proofs.WalkLemmas.{same_some}
use Rattle.std.proofs.lemmas.List.{length-map}
use Rattle.std.proofs.lemmas.Option.{slice_get-get_or}

module _ {X Y : Type 0} (h : X → Y) (num : Y → ℕ) where
  past_map : (a : ℕ) (xs : List X) → IsPast (λ x. num (h x)) a xs → IsPast num a (map h xs)
  past_map a [] p = tt
  past_map a (x ∷ xs) p = (p.0, past_map a xs p.1)

  pub rising_map : (xs : List X) → IsRising (λ x. num (h x)) xs → IsRising num (map h xs)
  rising_map [] r = tt
  rising_map (x ∷ xs) r = (past_map (num (h x)) xs r.0, rising_map xs r.1)

  past_unmap : (a : ℕ) (xs : List X) → IsPast num a (map h xs) → IsPast (λ x. num (h x)) a xs
  past_unmap a [] p = tt
  past_unmap a (x ∷ xs) p = (p.0, past_unmap a xs p.1)

  pub rising_unmap : (xs : List X) → IsRising num (map h xs) → IsRising (λ x. num (h x)) xs
  rising_unmap [] r = tt
  rising_unmap (x ∷ xs) r = (past_unmap (num (h x)) xs r.0, rising_unmap xs r.1)

-- by numbers that are the same
module _ {X : Type 0} (m n : X → ℕ) where
  abbrev Same : X → Type 0
  Same x = m x ≡ n x

  past_same : (a b : ℕ) (xs : List X) → a ≡ b → All Same xs → IsPast m a xs → IsPast n b xs
  past_same a b [] e s p = tt
  past_same a b (x ∷ xs) e s p = ((let h = All-head Same x xs s in let l = p.0 in omega (arith, e, h, l)), past_same a b xs e (All-tail Same x xs s) p.1)

  pub rising_same : (xs : List X) → All Same xs → IsRising m xs → IsRising n xs
  rising_same [] s r = tt
  rising_same (x ∷ xs) s r = (past_same (m x) (n x) xs (All-head Same x xs s) (All-tail Same x xs s) r.0, rising_same xs (All-tail Same x xs s) r.1)

module _ (nodes : Pages LegView BoxView) (most : ℕ) where
  -- the leaves of a feature are told by its place
  leaves_once : (f previous page left : ℕ) (ps qs : List ℕ) → AreLeavesFrom nodes most f previous page left ps → AreLeavesFrom nodes most f previous page left qs → ps ≡ qs
  leaves_once f previous page left [] [] c d = refl
  leaves_once f previous page left [] (q ∷ qs) c d = absurd (let z = c.0 in let s = d.1.some in omega (arith, z, s))
  leaves_once f previous page left (p ∷ ps) [] c d = absurd (let z = d.0 in let s = c.1.some in omega (arith, z, s))
  leaves_once f previous page left (p ∷ ps) (q ∷ qs) c d =
      let e : p ≡ q = sym c.0 ∙ d.0 in
      let rest : ps ≡ qs = leaves_once f p (next_in (nodes.at p)) (left - most) ps qs c.2 (subst (λ q. AreLeavesFrom nodes most f q (next_in (nodes.at q)) (left - most) qs) (sym e) d.2) in
      λ i. e i ∷ rest i

  pub chains_once : (rows g : ℕ) (places : List Place) (tracks : List Track) (cs ds : List (List ℕ)) → AreChains nodes most rows g places tracks cs → AreChains nodes most rows g places tracks ds → cs ≡ ds
  chains_once rows g [] [] [] [] c d = refl
  chains_once rows g [] [] [] (x ∷ ds) c d = absurd d
  chains_once rows g [] [] (x ∷ cs) ds c d = absurd c
  chains_once rows g [] (t ∷ tracks) cs ds c d = absurd c
  chains_once rows g (p ∷ places) [] cs ds c d = absurd c
  chains_once rows g (p ∷ places) (t ∷ tracks) [] ds c d = absurd c
  chains_once rows g (p ∷ places) (t ∷ tracks) (x ∷ cs) [] c d = absurd d
  chains_once rows g (p ∷ places) (t ∷ tracks) (x ∷ cs) (y ∷ ds) c d =
      let first : x ≡ y = leaves_once g 0 p.first p.legs x y c.0.leaves d.0.leaves in
      let rest : cs ≡ ds = chains_once rows (suc g) places tracks cs ds c.1 d.1 in
      λ i. first i ∷ rest i

module _ (nodes : Pages LegView BoxView) (most : ℕ) where
  abbrev IsPage : ℕ → Type 0
  IsPage p = (0 < p) × (p < nodes.count)

  leaves_within : (f previous page left : ℕ) (ps : List ℕ) → AreLeavesFrom nodes most f previous page left ps → All IsPage ps
  leaves_within f previous page left [] c = All-nil IsPage
  leaves_within f previous page left (p ∷ ps) c = All-cons IsPage p ps (c.1.above, c.1.within) (leaves_within f p (next_in (nodes.at p)) (left - most) ps c.2)

  pub chains_within : (rows g : ℕ) (places : List Place) (tracks : List Track) (cs : List (List ℕ)) → AreChains nodes most rows g places tracks cs → All IsPage (joined cs)
  chains_within rows g places tracks [] c = All-nil IsPage
  chains_within rows g [] [] (x ∷ cs) c = absurd c
  chains_within rows g [] (t ∷ tracks) (x ∷ cs) c = absurd c
  chains_within rows g (p ∷ places) [] (x ∷ cs) c = absurd c
  chains_within rows g (p ∷ places) (t ∷ tracks) (x ∷ cs) c = All-append IsPage x (joined cs) (leaves_within g 0 p.first p.legs x c.0.leaves) (chains_within rows (suc g) places tracks cs c.1)

abbrev page_of : Met → ℕ
page_of m = m.page

pub at_default : {X : Type 0} (xs : List X) (i : ℕ) (x d : X) → slice_get xs i ≡ Some x → get_or xs i d ≡ x
at_default [] i x d e = let none : None ≡ Some x = e in absurd (cc)
at_default (y ∷ xs) zero x d e = same_some y x e
at_default (y ∷ xs) (suc i) x d e = at_default xs i x d e

pub map_at : (ms : List Met) (i : ℕ) (m : Met) → slice_get ms i ≡ Some m → slice_get (map page_of ms) i ≡ Some m.page
map_at [] i m e = let none : None ≡ Some m = e in absurd (cc)
map_at (n ∷ ms) zero m e = ap (λ (n : Met). Some n.page) (same_some n m e)
map_at (n ∷ ms) (suc i) m e = map_at ms i m e

module _ (nodes : Pages LegView BoxView) (tree : TbTree) (rows total : ℕ) (places : List Place) (tracks : List Track) (survey : Survey) (leaves : List Met) (sv : Surveys nodes tree.shape.leaf rows places tracks survey) (moved : IsPermutation survey.leaves.items leaves) where
  abbrev Is : Met → Type 0
  Is m = IsMet (nodes.at m.page) m

  pub are_met : All Is leaves
  are_met = All-permutation Is survey.leaves.items leaves moved sv.are_met

  firsts_are : All (λ (m : Met). m.first ≡ first_on nodes m.page) leaves
  firsts_are = All-weaker Is (λ (m : Met). m.first ≡ first_on nodes m.page) (λ m h. h.first) leaves are_met

  ordered : IsPermutation (joined sv.chains) (map page_of leaves)
  ordered = subst (λ ps. IsPermutation ps (map page_of leaves)) sv.pages_are (IsPermutation-map page_of survey.leaves.items leaves moved)

  pub within : All (λ p. (0 < p) × (p < nodes.count)) (map page_of leaves)
  within = All-permutation (λ p. (0 < p) × (p < nodes.count)) (joined sv.chains) (map page_of leaves) ordered (chains_within nodes tree.shape.leaf rows 0 places tracks sv.chains sv.are_chains)

  -- a check that passes says that the pages are whole
  pub checked : 0 < nodes.count → AreHeld nodes → IsSurveyWhole places total survey → IsRising (λ (m : Met). m.first) leaves → (pages : ℕ → List ℕ) → IsTreeOver nodes tree (map page_of leaves) pages → NameLast places leaves → IsChecked nodes tree rows total places tracks
  checked some held whole strict pages over last = record {
    page_0 = some;
    held = held;
    chains = sv.chains;
    are_chains = sv.are_chains;
    some = whole.some;
    once = subst (λ ns. IsPermutation ns (range_with_len 0 total)) sv.ordinals whole.once;
    firsts = rising_unmap (λ pages. first_ordinal (legs_on nodes pages)) (λ n. n) sv.chains (subst (IsRising (λ n. n)) sv.firsts whole.firsts);
    order = map page_of leaves;
    ordered = ordered;
    rises = rising_map page_of (first_on nodes) leaves (rising_same (λ (m : Met). m.first) (λ (m : Met). first_on nodes m.page) leaves firsts_are strict);
    pages = pages;
    over = over;
    last_index = last;
  }

  -- leaves that rise by their first legs are in the only order that does
  module _ (chains : List (List ℕ)) (are_chains : AreChains nodes tree.shape.leaf rows 0 places tracks chains) (order : List ℕ) (permuted : IsPermutation (joined chains) order) (rising : IsRising (first_on nodes) order) where
    chains_same : sv.chains ≡ chains
    chains_same = chains_once nodes tree.shape.leaf rows 0 places tracks sv.chains chains sv.are_chains are_chains

    module _ (rises : IsNonDecreasingBy (λ (m : Met). m.first) leaves) where
      pub order_same : map page_of leaves ≡ order
      order_same =
          in_order_once (first_on nodes) order (map page_of leaves) rising
          (IsPermutation-trans order (joined chains) (map page_of leaves) (IsPermutation-sym (joined chains) order permuted) (subst (λ cs. IsPermutation (joined cs) (map page_of leaves)) chains_same ordered))
          (up_map leaves firsts_are rises)
        where
          up_map : (ms : List Met) → All (λ (m : Met). m.first ≡ first_on nodes m.page) ms → IsNonDecreasingBy (λ (m : Met). m.first) ms → IsNonDecreasingBy (first_on nodes) (map page_of ms)
          up_map ms s u i j d le l =
              let lj : j < length ms = (let m = length-map ms page_of in omega (arith, l, m)) in
              let li : i < length ms = omega (arith, le, lj) in
              let x = (get_at ms i li).0 in
              let a = get_or ms i x in
              let b = get_or ms j x in
              let up = u i j x le lj in
              let fi = s i x li in
              let fj = s j x lj in
              let vi = ap (first_on nodes) (at_default (map page_of ms) i a.page d (map_at ms i a (slice_get-get_or ms i x li))) in
              let vj = ap (first_on nodes) (at_default (map page_of ms) j b.page d (map_at ms j b (slice_get-get_or ms j x lj))) in
              omega (arith, up, fi, fj, vi, vj)

      pub order_strict : IsRising (λ (m : Met). m.first) leaves
      order_strict = rising_same (λ (m : Met). first_on nodes m.page) (λ (m : Met). m.first) leaves (All-weaker (λ (m : Met). m.first ≡ first_on nodes m.page) (λ (m : Met). first_on nodes m.page ≡ m.first) (λ m h. sym h) leaves firsts_are)
          (rising_unmap page_of (first_on nodes) leaves (subst (IsRising (first_on nodes)) (sym order_same) rising))

  module _ (k : IsChecked nodes tree rows total places tracks) where
    same_chains : sv.chains ≡ k.chains
    same_chains = chains_once nodes tree.shape.leaf rows 0 places tracks sv.chains k.chains sv.are_chains k.are_chains

    pub whole : IsSurveyWhole places total survey
    whole = record {
      some = k.some;
      once = subst (λ ns. IsPermutation ns (range_with_len 0 total)) (ap (λ cs. map (λ leg. leg.ordinal) (legs_on nodes (joined cs))) (sym same_chains) ∙ sym sv.ordinals) k.once;
      firsts = subst (IsRising (λ n. n)) (ap (map (λ pages. first_ordinal (legs_on nodes pages))) (sym same_chains) ∙ sym sv.firsts) (rising_map (λ pages. first_ordinal (legs_on nodes pages)) (λ n. n) k.chains k.firsts);
    }

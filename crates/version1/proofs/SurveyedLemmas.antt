-- The leaves of a store of version 1 that were surveyed have each leg, and no two begin with the same one.
use Rattle.std.proofs.Common.{◌≡◌, ◌<◌, ◌≤◌, ◌+◌, ◌-◌, ◌∙◌, ◌∷◌, ℕ, zero, suc, min, List, [], map, length, slice_get, Option, Some, None, Bool, true, false, cond, nat_eq, refl, sym, ap, subst, arith, ⊎_elim}
use Rattle.std.specs.List.{All, range_with_len, sum_by}
use Rattle.std.specs.List.Sorted.{IsPermutation, IsNonDecreasingBy}
use Rattle.std.specs.Cmp.{nat_eq_equiv}
use Rattle.std.proofs.lemmas.Bool.{cases_lt, eqb-true}
use Rattle.std.proofs.lemmas.List.Elements.{All-head, All-tail, All-nil, All-cons, All-append}
use Rattle.std.proofs.lemmas.List.Sorted.{All-permutation, IsPermutation-sym, sum_by-IsPermutation}
use Rattle.std.proofs.lemmas.List.Sums.{sum_by-append, sum_by-cons}
use Rattle.legs.specs.Blocks.{joined}
use Rattle.legs.specs.Boxes.{BoxView}
use Rattle.legs.specs.Legs.{LegView}
use Rattle.legs.specs.declared.tracks.Track.{Track}
use Rattle.treecheck.specs.Check.{next_in, first_on, legs_on, AreChains, AreLeavesFrom, HoldChains}
use Rattle.tbtree.specs.Turn.{first_ordinal, last_leg, ComeInTurn, IsPast, IsRising}
use Rattle.tbtree.specs.Descent.{legs_in}
use Rattle.tbtree.specs.Nodes.{Pages}
use Rattle.tbtree.specs.declared.tree.Place.{Place}
use Rattle.version1.specs.OldLegs.{AreSurveyed, HaveEachOf, IsOneOf, IsOnOne, IsReadable}
use Rattle.treecheck.specs.Ordering.{IsSurveyWhole}
use Rattle.treecheck.specs.Walking.{IsMet, Surveys}
use Rattle.treecheck.specs.declared.walking.Met.{Met}
use Rattle.treecheck.specs.declared.walking.Survey.{Survey}
use Rattle.treecheck.proofs.CheckingLemmas.{chains_once, map_at, rising_map}
use Rattle.version1.proofs.TakingLemmas.{all_from, all_get}
use Rattle.treecheck.proofs.WalkLemmas.{same_some}
use Rattle.treecheck.proofs.WalkedLemmas.{turn_append, turn_before}
use Rattle.std.proofs.lemmas.List.Sorted.{IsPermutation-map}

abbrev weight : Bool → ℕ
weight b = cond b 1 0

-- 1 where a number is n
abbrev mark : ℕ → ℕ → ℕ
mark n m = weight (nat_eq m n)

marked : (n : ℕ) → mark n n ≡ 1
marked n = ap weight (nat_eq_equiv.refl n)

-- how many of some legs have that ordinal
abbrev times : ℕ → List LegView → ℕ
times n legs = sum_by (λ leg. mark n leg.ordinal) legs

sum_map : {X Y : Type 0} (h : X → Y) (f : Y → ℕ) (xs : List X) → sum_by f (map h xs) ≡ sum_by (λ x. f (h x)) xs
sum_map h f [] = refl
sum_map h f (x ∷ xs) = (let a = sum_by-cons f (h x) (map h xs) in let b = sum_by-cons (λ x. f (h x)) x xs in let c = sum_map h f xs in omega (arith, a, b, c))

range_past : (n a k : ℕ) → n < a → sum_by (mark n) (range_with_len a k) ≡ 0
range_past n a zero l = refl
range_past n a (suc k) l =
    let s = sum_by-cons (mark n) a (range_with_len (a + 1) k) in
    let on = range_past n (a + 1) k (omega (arith, l)) in
    let here : mark n a ≡ 0 =
    (elim (nat_eq a n) as (λ b. nat_eq a n ≡ b → weight b ≡ 0) [
      | true ↦ λ t. absurd (let e : a ≡ n = eqb-true a n t in omega (arith, e, l))
      | false ↦ λ t. refl
    ]) refl in
    omega (arith, s, on, here)

-- a number stands once among those from a on
range_once : (n a k : ℕ) → sum_by (mark n) (range_with_len a k) ≤ 1
range_once n a zero = omega arith
range_once n a (suc k) =
    let s = sum_by-cons (mark n) a (range_with_len (a + 1) k) in
    let on = range_once n (a + 1) k in
    let both : mark n a + sum_by (mark n) (range_with_len (a + 1) k) ≤ 1 =
    (elim (nat_eq a n) as (λ b. nat_eq a n ≡ b → weight b + sum_by (mark n) (range_with_len (a + 1) k) ≤ 1) [
      | true ↦ λ t. (let e : a ≡ n = eqb-true a n t in let none = range_past n (a + 1) k (omega (arith, e)) in omega (arith, none))
      | false ↦ λ t. omega (arith, on)
    ]) refl in
    omega (arith, s, both)

-- legs that are some have their first ordinal
first_counts : (n : ℕ) (legs : List LegView) → 0 < length legs → n ≡ first_ordinal legs → 0 < times n legs
first_counts n [] l e = absurd (omega (arith, l))
first_counts n (x ∷ legs) l e =
    let s = sum_by-cons (λ (leg : LegView). mark n leg.ordinal) x legs in
    let m : mark n x.ordinal ≡ 1 = ap (mark n) (sym e) ∙ marked n in
    omega (arith, s, m)

-- the leaves, of which each has the leg that it begins with, and no two a leg of the same ordinal
module _ (own : ℕ → Met → ℕ) where
  abbrev Begins : Met → Type 0
  Begins m = 0 < own m.first m

  apart : (a : ℕ) (ms : List Met) → All (λ (m : Met). a ≤ m.first) ms → All Begins ms → sum_by (own a) ms ≡ 0 → IsPast (λ (m : Met). m.first) a ms
  apart a [] low begin e = tt
  apart a (m ∷ ms) low begin e =
      let s = sum_by-cons (own a) m ms in
      let here = All-head (λ (m : Met). a ≤ m.first) m ms low in
      let own_first = All-head Begins m ms begin in (
        ⊎_elim
            (λ (l : a < m.first). l)
            (λ (l : m.first ≤ a). absurd (let same : m.first ≡ a = omega (arith, here, l) in let some : 0 < own a m = subst (λ n. 0 < own n m) same own_first in omega (arith, s, e, some)))
            (cases_lt a m.first),
        apart a ms (All-tail (λ (m : Met). a ≤ m.first) m ms low) (All-tail Begins m ms begin) (omega (arith, s, e)),
      )

  strict : (ms : List Met) → IsNonDecreasingBy (λ (m : Met). m.first) ms → All Begins ms → ((n : ℕ) → sum_by (own n) ms ≤ 1) → IsRising (λ (m : Met). m.first) ms
  strict [] up begin once = tt
  strict (m ∷ ms) up begin once = (
    (let s = sum_by-cons (own m.first) m ms in
        let one = once m.first in
        let own_first = All-head Begins m ms begin in
        apart m.first ms (λ k d b. up 0 (suc k) d (omega arith) (omega (arith, b))) (All-tail Begins m ms begin) (omega (arith, s, one, own_first))),
    strict ms (λ i j d a b. up (suc i) (suc j) d (omega (arith, a)) (omega (arith, b))) (All-tail Begins m ms begin) (λ n. (let s = sum_by-cons (own n) m ms in let one = once n in omega (arith, s, one))),
  )

-- legs that come in turn are none below the first
turn_above : (f rows : ℕ) (x : LegView) (xs : List LegView) (i : ℕ) (leg : LegView) → ComeInTurn f rows (Some x) xs → slice_get xs i ≡ Some leg → x.ordinal < leg.ordinal
turn_above f rows x [] i leg h e = let none : None ≡ Some leg = e in absurd (cc)
turn_above f rows x (y ∷ xs) zero leg h e = subst (λ (leg : LegView). x.ordinal < leg.ordinal) (same_some y leg e) h.2.0
turn_above f rows x (y ∷ xs) (suc i) leg h e = (let on = turn_above f rows y xs i leg h.3 e in let l = h.2.0 in omega (arith, on, l))

turn_low : (f rows : ℕ) (d : Option LegView) (legs : List LegView) (leg : LegView) → ComeInTurn f rows d legs → IsOneOf legs leg → first_ordinal legs ≤ leg.ordinal
turn_low f rows d legs leg h one = low legs one.0 h one.1
  where
    low : (legs : List LegView) (i : ℕ) → ComeInTurn f rows d legs → slice_get legs i ≡ Some leg → first_ordinal legs ≤ leg.ordinal
    low [] i h e = let none : None ≡ Some leg = e in absurd (cc)
    low (x ∷ xs) zero h e = (let s : x.ordinal ≡ leg.ordinal = ap (λ (leg : LegView). leg.ordinal) (same_some x leg e) in omega (arith, s))
    low (x ∷ xs) (suc i) h e = (let l = turn_above f rows x xs i leg h.3 e in omega (arith, l))

module _ (nodes : Pages LegView BoxView) where
  -- the page is a leaf with a leg, and none is below the first
  record IsWholeLeaf (p : ℕ) : Type 0 where
    pub readable : IsReadable nodes p
    pub some : 0 < length (legs_in (nodes.at p))
    pub low : (leg : LegView) → IsOneOf (legs_in (nodes.at p)) leg → first_on nodes p ≤ leg.ordinal

  leaves_whole : (most f rows previous page left : ℕ) (d : Option LegView) (ps : List ℕ) → 0 < most → AreLeavesFrom nodes most f previous page left ps → ComeInTurn f rows d (legs_on nodes ps) → All IsWholeLeaf ps
  leaves_whole most f rows previous page left d [] h c t = All-nil IsWholeLeaf
  leaves_whole most f rows previous page left d (p ∷ ps) h c t =
      let legs = legs_in (nodes.at p) in
      let leaf = c.1 in
      let some = leaf.some in
      let count : length legs ≡ min most left = ap (λ o. length (legs_in o)) leaf.is ∙ leaf.count_is in
      All-cons IsWholeLeaf p ps
      (record {
        readable = record { within = leaf.within; leaf = leaf.leaf; is = leaf.is };
        some = omega (arith, count, some, h);
        low = λ leg one. turn_low f rows d legs leg (turn_before f rows d legs (legs_on nodes ps) t) one;
      })
      (leaves_whole most f rows p (next_in (nodes.at p)) (left - most) (last_leg d legs) ps h c.2 (turn_append f rows d legs (legs_on nodes ps) t))

  chains_whole : (most rows g : ℕ) (places : List Place) (tracks : List Track) (cs : List (List ℕ)) → 0 < most → AreChains nodes most rows g places tracks cs → All IsWholeLeaf (joined cs)
  chains_whole most rows g places tracks [] h c = All-nil IsWholeLeaf
  chains_whole most rows g [] [] (x ∷ cs) h c = absurd c
  chains_whole most rows g [] (t ∷ tracks) (x ∷ cs) h c = absurd c
  chains_whole most rows g (p ∷ places) [] (x ∷ cs) h c = absurd c
  chains_whole most rows g (p ∷ places) (t ∷ tracks) (x ∷ cs) h c =
      All-append IsWholeLeaf x (joined cs)
      (leaves_whole most g rows 0 p.first p.legs None x h c.0.leaves c.0.in_turn)
      (chains_whole most rows (suc g) places tracks cs h c.1)

  times_on : (n : ℕ) (pages : List ℕ) → times n (legs_on nodes pages) ≡ sum_by (λ p. times n (legs_in (nodes.at p))) pages
  times_on n [] = refl
  times_on n (p ∷ ps) =
      let a = sum_by-append (λ (leg : LegView). mark n leg.ordinal) (legs_in (nodes.at p)) (legs_on nodes ps) in
      let b = sum_by-cons (λ p. times n (legs_in (nodes.at p))) p ps in
      let c = times_on n ps in
      omega (arith, a, b, c)

module _ (nodes : Pages LegView BoxView) (most rows total : ℕ) (places : List Place) (tracks : List Track) (leaves : List Met) (some : 0 < most) (s : AreSurveyed nodes most rows total places tracks leaves) where
  abbrev page_of : Met → ℕ
  page_of m = m.page

  abbrev all : List LegView
  all = legs_on nodes (joined s.chains)

  abbrev own : ℕ → Met → ℕ
  own n m = times n (legs_in (nodes.at m.page))

  whole_at : (k : ℕ) (m : Met) → slice_get leaves k ≡ Some m → IsWholeLeaf nodes m.page
  whole_at k m e =
      let good = All-permutation (IsWholeLeaf nodes) (joined s.chains) (map page_of leaves) s.ordered (chains_whole nodes most rows 0 places tracks s.chains some s.are_chains) in
      all_get (IsWholeLeaf nodes) (map page_of leaves) k m.page good (map_at leaves k m e)

  first_at : (k : ℕ) (m : Met) → slice_get leaves k ≡ Some m → m.first ≡ first_on nodes m.page
  first_at k m e = (all_get (λ (m : Met). IsMet (nodes.at m.page) m) leaves k m s.are_met e).first

  begin : All (Begins own) leaves
  begin = all_from (Begins own) leaves (λ k m e. first_counts m.first (legs_in (nodes.at m.page)) (whole_at k m e).some (first_at k m e))

  once : (n : ℕ) → sum_by (own n) leaves ≤ 1
  once n =
      let a = sum_map page_of (λ p. times n (legs_in (nodes.at p))) leaves in
      let b = sum_by-IsPermutation (λ p. times n (legs_in (nodes.at p))) (joined s.chains) (map page_of leaves) s.ordered in
      let c = times_on nodes n (joined s.chains) in
      let d = sum_map (λ (leg : LegView). leg.ordinal) (mark n) all in
      let e = sum_by-IsPermutation (mark n) (map (λ (leg : LegView). leg.ordinal) all) (range_with_len 0 total) s.once in
      let f = range_once n 0 total in
      omega (arith, a, b, c, d, e, f)

  -- the leaves have each leg of a list that is theirs in another order
  pub have_each : (list : List LegView) → IsPermutation all list → HaveEachOf nodes leaves list
  have_each list moved = record {
    readable = λ k m e. (whole_at k m e).readable;
    rises = strict own leaves s.rises begin once;
    each = λ leg one. all_get (IsOnOne nodes leaves) list one.0 leg (All-permutation (IsOnOne nodes leaves) all list moved (on_pages (joined s.chains) on_chains)) one.1;
  }
    where
      on_leaf : (k : ℕ) (m : Met) → slice_get leaves k ≡ Some m → All (IsOnOne nodes leaves) (legs_in (nodes.at m.page))
      on_leaf k m e =
          all_from (IsOnOne nodes leaves) (legs_in (nodes.at m.page))
          (λ i leg g. record {
            place = k;
            met = m;
            at = e;
            begun = (let f = first_at k m e in let l = (whole_at k m e).low leg (i, g) in omega (arith, f, l));
            has = (i, g);
          })

      on_leaves : (ms : List Met) → ((k : ℕ) (m : Met) → slice_get ms k ≡ Some m → All (IsOnOne nodes leaves) (legs_in (nodes.at m.page)))
          → All (λ p. All (IsOnOne nodes leaves) (legs_in (nodes.at p))) (map page_of ms)
      on_leaves [] h = All-nil (λ p. All (IsOnOne nodes leaves) (legs_in (nodes.at p)))
      on_leaves (m ∷ ms) h = All-cons (λ p. All (IsOnOne nodes leaves) (legs_in (nodes.at p))) m.page (map page_of ms) (h 0 m refl) (on_leaves ms (λ k. h (suc k)))

      on_chains : All (λ p. All (IsOnOne nodes leaves) (legs_in (nodes.at p))) (joined s.chains)
      on_chains =
          All-permutation (λ p. All (IsOnOne nodes leaves) (legs_in (nodes.at p))) (map page_of leaves) (joined s.chains)
          (IsPermutation-sym (joined s.chains) (map page_of leaves) s.ordered) (on_leaves leaves on_leaf)

      on_pages : (ps : List ℕ) → All (λ p. All (IsOnOne nodes leaves) (legs_in (nodes.at p))) ps → All (IsOnOne nodes leaves) (legs_on nodes ps)
      on_pages [] h = All-nil (IsOnOne nodes leaves)
      on_pages (p ∷ ps) h =
          All-append (IsOnOne nodes leaves) (legs_in (nodes.at p)) (legs_on nodes ps)
          (All-head (λ p. All (IsOnOne nodes leaves) (legs_in (nodes.at p))) p ps h)
          (on_pages ps (All-tail (λ p. All (IsOnOne nodes leaves) (legs_in (nodes.at p))) p ps h))

-- a survey of chains that hold a list is whole
pub held_whole : (nodes : Pages LegView BoxView) (most rows total : ℕ) (places : List Place) (tracks : List Track) (survey : Survey) (legs : List LegView)
    → Surveys nodes most rows places tracks survey → HoldChains nodes most rows total places tracks legs → IsSurveyWhole places total survey
held_whole nodes most rows total places tracks survey legs sv k =
    let same : sv.chains ≡ k.chains = chains_once nodes most rows 0 places tracks sv.chains k.chains sv.are_chains k.are_chains in
    let ordinals : List (List ℕ) → List ℕ = λ cs. map (λ (leg : LegView). leg.ordinal) (legs_on nodes (joined cs)) in
    let firsts : List (List ℕ) → List ℕ = map (λ pages. first_ordinal (legs_on nodes pages)) in
    record {
      some = k.some;
      once = subst (λ ns. IsPermutation ns (range_with_len 0 total)) (ap ordinals (sym same) ∙ sym sv.ordinals)
          (subst (IsPermutation (ordinals k.chains)) k.numbered (IsPermutation-map (λ (leg : LegView). leg.ordinal) (legs_on nodes (joined k.chains)) legs k.moved));
      firsts = subst (IsRising (λ n. n)) (ap firsts (sym same) ∙ sym sv.firsts) (rising_map (λ pages. first_ordinal (legs_on nodes pages)) (λ n. n) k.chains k.firsts);
    }

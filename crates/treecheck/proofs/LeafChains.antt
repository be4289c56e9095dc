-- The leaves along the chains of the features, in the order of their first legs, are the runs of the legs.
use Rattle.std.proofs.Common.{◌≡◌, ℕ, zero, suc, ◌+◌, ◌-◌, ◌*◌, ◌<◌, ◌≤◌, ◌==◌, min, nat_lt, lt-ltb, le-ltb, true, false, cond, List, [], ◌∷◌, ◌++◌, length, map, take, drop, Option, Some, None, slice_get, refl, sym, ap, ◌∙◌, arith, subst, ⊎_elim, length-append}
use Rattle.std.specs.List.{filter}
use Rattle.std.proofs.lemmas.Bool.{cases_lt}
use Rattle.std.proofs.lemmas.List.{append-nil}
use Rattle.legs.specs.Blocks.{runs_after, begins, groups, block}
use Rattle.legs.specs.Boxes.{BoxView}
use Rattle.legs.specs.Costs.{leg_feature}
use Rattle.legs.specs.Legs.{LegView}
use Rattle.treecheck.specs.Check.{next_in, legs_on, first_on, AreLeavesFrom}
use Rattle.tbtree.specs.Turn.{first_ordinal, ComeInTurn, IsPast, IsRising}
use Rattle.tbtree.specs.Descent.{legs_in}
use Rattle.tbtree.specs.Nodes.{Pages, ALeaf}
use Rattle.tbtree.specs.Stands.{owner, marks, pages_of, head_or_zero, last_or}
use Rattle.legs.proofs.GroupLemmas.{some_none, some_same, group_at, same_by_get}
use Rattle.tbtree.proofs.KeyRuns.{is}
use Rattle.tbtree.proofs.OrdinalOrder.{IsUp}
use Rattle.tbtree.proofs.OwnedLists.{AreOf}
use Rattle.tbtree.proofs.SortLemmas.{number}
use Rattle.tbtree.proofs.TurnLemmas.{turn_append}

module _ {X : Type 0} where
  pub split_at : (xs : List X) (i : ℕ) (x : X) → slice_get xs i ≡ Some x → xs ≡ take i xs ++ x ∷ drop (suc i) xs
  split_at [] i x e = absurd (some_none x (sym e))
  split_at (y ∷ ys) zero x e = ap (λ z. z ∷ ys) (some_same y x e)
  split_at (y ∷ ys) (suc i) x e = ap (λ l. y ∷ l) (split_at ys i x e)

  take_first : (n : ℕ) (a b : List X) → length a ≡ n → take n (a ++ b) ≡ a
  take_first zero [] b e = refl
  take_first (suc n) [] b e = absurd (omega (arith, e))
  take_first zero (x ∷ a) b e = absurd (omega (arith, e))
  take_first (suc n) (x ∷ a) b e = ap (λ l. x ∷ l) (take_first n a b (omega (arith, e)))

  drop_past : (n k m : ℕ) (a b : List X) → length a ≡ n → n + k ≡ m → drop m (a ++ b) ≡ drop k b
  drop_past n k m [] b e s = ap (λ n. drop n b) (omega (arith, e, s))
  drop_past n k zero (x ∷ a) b e s = absurd (omega (arith, e, s))
  drop_past zero k (suc m) (x ∷ a) b e s = absurd (omega (arith, e))
  drop_past (suc n) k (suc m) (x ∷ a) b e s = drop_past n k m a b (omega (arith, e)) (omega (arith, s))

  take_short : (n : ℕ) (a : List X) → length a ≤ n → take n a ≡ a
  take_short zero [] l = refl
  take_short (suc n) [] l = refl
  take_short zero (x ∷ a) l = absurd (omega (arith, l))
  take_short (suc n) (x ∷ a) l = ap (λ l. x ∷ l) (take_short n a (omega (arith, l)))

  abbrev within : ℕ → List X → ℕ → Option (List X)
  within n xs j = cond (nat_lt (j * n) (length xs)) (Some (block n j xs)) None

  -- a full group, and those behind it
  pub groups_first : (n : ℕ) (a b : List X) → 0 < n → length a ≡ n → groups n (a ++ b) ≡ a ∷ groups n b
  groups_first n a b h e = same_by_get (groups n (a ++ b)) (a ∷ groups n b) (λ j. at j)
    where
      all : length (a ++ b) ≡ length a + length b
      all = length-append a b

      at : (j : ℕ) → slice_get (groups n (a ++ b)) j ≡ slice_get (a ∷ groups n b) j
      at zero =
          group_at n (a ++ b) 0 h
          ∙ ap (λ c. cond c (Some (block n 0 (a ++ b))) None) (lt-ltb (0 * n) (length (a ++ b)) (let w = all in omega (arith, w, h, e)))
          ∙ ap (λ k. Some (take n (drop k (a ++ b)))) (let z : 0 * n ≡ 0 = omega arith in z)
          ∙ ap Some (take_first n a b e)
      at (suc j) =
          let step : suc j * n ≡ n + j * n = omega arith in
          group_at n (a ++ b) (suc j) h
          ∙ ap (λ c. cond c (Some (block n (suc j) (a ++ b))) None) (⊎_elim
          (λ (l : j * n < length b). lt-ltb (suc j * n) (length (a ++ b)) (let w = all in omega (arith, w, e, l, step)) ∙ sym (lt-ltb (j * n) (length b) l))
          (λ (l : length b ≤ j * n). le-ltb (suc j * n) (length (a ++ b)) (let w = all in omega (arith, w, e, l, step)) ∙ sym (le-ltb (j * n) (length b) l))
          (cases_lt (j * n) (length b)))
          ∙ ap (λ l. cond (nat_lt (j * n) (length b)) (Some (take n l)) None) (drop_past n (j * n) (suc j * n) a b e (sym step))
          ∙ sym (group_at n b j h)

  -- the only group
  pub groups_only : (n : ℕ) (a : List X) → 0 < length a → length a ≤ n → groups n a ≡ a ∷ []
  groups_only n a some l = same_by_get (groups n a) (a ∷ []) (λ j. at j)
    where
      h : 0 < n
      h = omega (arith, some, l)

      at : (j : ℕ) → slice_get (groups n a) j ≡ slice_get (a ∷ []) j
      at zero =
          group_at n a 0 h
          ∙ ap (λ c. cond c (Some (block n 0 a)) None) (lt-ltb (0 * n) (length a) (omega (arith, some)))
          ∙ ap (λ k. Some (take n (drop k a))) (let z : 0 * n ≡ 0 = omega arith in z)
          ∙ ap Some (take_short n a l)
      at (suc j) = group_at n a (suc j) h ∙ ap (λ c. cond c (Some (block n (suc j) a)) None) (le-ltb (suc j * n) (length a) (let step : suc j * n ≡ n + j * n = omega arith in omega (arith, l, step)))

-- the firsts of runs rise with their list
runs_past : (key : LegView → ℕ) (m a : ℕ) (b xs : List LegView) → IsPast number a xs → IsPast first_ordinal a (runs_after key (suc m) b xs)
runs_past key m a b [] h = tt
runs_past key m a b (x ∷ xs) h =
    let on = runs_past key m a (b ++ x ∷ []) xs h.1 in
    elim (begins key (suc m) b x) as (λ v. IsPast first_ordinal a (cond v ((x ∷ take m (filter (is key (key x)) xs)) ∷ runs_after key (suc m) (b ++ x ∷ []) xs) (runs_after key (suc m) (b ++ x ∷ []) xs))) [
      | true ↦ (h.0, on)
      | false ↦ on
    ]

pub runs_rise : (key : LegView → ℕ) (m : ℕ) (b xs : List LegView) → IsRising number xs → IsRising first_ordinal (runs_after key (suc m) b xs)
runs_rise key m b [] h = tt
runs_rise key m b (x ∷ xs) h =
    let on = runs_rise key m (b ++ x ∷ []) xs h.1 in
    elim (begins key (suc m) b x) as (λ v. IsRising first_ordinal (cond v ((x ∷ take m (filter (is key (key x)) xs)) ∷ runs_after key (suc m) (b ++ x ∷ []) xs) (runs_after key (suc m) (b ++ x ∷ []) xs))) [
      | true ↦ (runs_past key m x.ordinal (b ++ x ∷ []) xs h.0, on)
      | false ↦ on
    ]

module _ (nodes : Pages LegView BoxView) where
  abbrev pub legs_at : ℕ → List LegView
  legs_at p = legs_in (nodes.at p)

  -- the feature of a page's legs
  abbrev pub own : ℕ → ℕ
  own p = owner leg_feature (legs_at p)

  abbrev pub pair : ℕ → ℕ × ℕ
  pair p = (own p, p)

  pub marks_pair : (order : List ℕ) → marks leg_feature (map legs_at order) order ≡ map pair order
  marks_pair [] = refl
  marks_pair (p ∷ order) = ap (λ l. pair p ∷ l) (marks_pair order)

  pub pages_own : (f : ℕ) (order : List ℕ) → pages_of f (map pair order) ≡ filter (is own f) order
  pages_own f [] = refl
  pages_own f (p ∷ order) = ap (λ l. cond (own p == f) (p ∷ l) l) (pages_own f order)

  pub take_pair : (i : ℕ) (order : List ℕ) → take i (map pair order) ≡ map pair (take i order)
  take_pair zero order = refl
  take_pair (suc i) [] = refl
  take_pair (suc i) (p ∷ order) = ap (λ l. pair p ∷ l) (take_pair i order)

  pub drop_pair : (i : ℕ) (order : List ℕ) → drop i (map pair order) ≡ map pair (drop i order)
  drop_pair zero order = refl
  drop_pair (suc i) [] = refl
  drop_pair (suc i) (p ∷ order) = drop_pair i order

  pub filter_legs : (f : ℕ) (order : List ℕ) → filter (is (owner leg_feature) f) (map legs_at order) ≡ map legs_at (filter (is own f) order)
  filter_legs f [] = refl
  filter_legs f (p ∷ order) =
      elim (own p == f) as (λ b. cond b (legs_at p ∷ filter (is (owner leg_feature) f) (map legs_at order)) (filter (is (owner leg_feature) f) (map legs_at order)) ≡ map legs_at (cond b (p ∷ filter (is own f) order) (filter (is own f) order))) [
        | true ↦ ap (λ l. legs_at p ∷ l) (filter_legs f order)
        | false ↦ filter_legs f order
      ]

  pub up_legs : (order : List ℕ) → IsUp (map (first_on nodes) order) → IsUp (map first_ordinal (map legs_at order))
  up_legs order u = subst IsUp (same order) u
    where
      same : (order : List ℕ) → map (first_on nodes) order ≡ map first_ordinal (map legs_at order)
      same [] = refl
      same (p ∷ order) = ap (λ l. first_on nodes p ∷ l) (same order)

  -- as many legs as there are left
  pub all_legs : (most f previous page left : ℕ) (ps : List ℕ) → AreLeavesFrom nodes most f previous page left ps → length (legs_on nodes ps) ≡ left
  all_legs most f previous page left [] h = sym h.0
  all_legs most f previous page left (p ∷ ps) h =
      let l = h.1 in
      let here : length (legs_at p) ≡ min most left = ap (λ n. length (legs_in n)) l.is ∙ l.count_is in
      let on = all_legs most f p (next_in (nodes.at p)) (left - most) ps h.2 in
      let s = length-append (legs_at p) (legs_on nodes ps) in
      omega (arith, here, on, s)

  -- the leaves of a feature are its legs in groups
  pub leaf_groups : (most f previous page left : ℕ) (ps : List ℕ) → 0 < most → AreLeavesFrom nodes most f previous page left ps → groups most (legs_on nodes ps) ≡ map legs_at ps
  leaf_groups most f previous page left [] h c = refl
  leaf_groups most f previous page left (p ∷ ps) h c =
      let l = c.1 in
      let here : length (legs_at p) ≡ min most left = ap (λ n. length (legs_in n)) l.is ∙ l.count_is in
      ⊎_elim
      (λ (w : most < left).
      groups_first most (legs_at p) (legs_on nodes ps) h (omega (arith, here, w)) ∙ ap (λ g. legs_at p ∷ g) (leaf_groups most f p (next_in (nodes.at p)) (left - most) ps h c.2))
      (λ (w : left ≤ most). last_one ps l.some here w c.2)
      (cases_lt most left)
    where
      last_one : (ps : List ℕ) → 0 < left → length (legs_at p) ≡ min most left → left ≤ most → AreLeavesFrom nodes most f p (next_in (nodes.at p)) (left - most) ps → groups most (legs_on nodes (p ∷ ps)) ≡ map legs_at (p ∷ ps)
      last_one [] some here w c = ap (groups most) (append-nil (legs_at p)) ∙ groups_only most (legs_at p) (omega (arith, here, some, h)) (omega (arith, here))
      last_one (q ∷ qs) some here w c = absurd (let s = c.1.some in omega (arith, s, w))

  -- each leaf is the feature's
  pub leaves_own : (most rows f previous page left : ℕ) (d : Option LegView) (ps : List ℕ) → 0 < most → AreLeavesFrom nodes most f previous page left ps → ComeInTurn f rows d (legs_on nodes ps) → AreOf own f ps
  leaves_own most rows f previous page left d [] h c t = tt
  leaves_own most rows f previous page left d (p ∷ ps) h c t =
      let l = c.1 in
      let here : length (legs_at p) ≡ min most left = ap (λ n. length (legs_in n)) l.is ∙ l.count_is in
      let s = turn_append f rows d (legs_at p) (legs_on nodes ps) t in (
        first_own (legs_at p) (let w = l.some in omega (arith, here, h, w)) s.0,
        leaves_own most rows f p (next_in (nodes.at p)) (left - most) _ ps h c.2 s.1,
      )
    where
      first_own : (legs : List LegView) → 0 < length legs → ComeInTurn f rows d legs → owner leg_feature legs ≡ f
      first_own [] l t = absurd (omega (arith, l))
      first_own (x ∷ legs) l t = t.0

  -- a leaf of a chain, by those before and after it
  pub leaf_split : (most f previous page left : ℕ) (xs : List ℕ) (p : ℕ) (ys : List ℕ) → AreLeavesFrom nodes most f previous page left (xs ++ p ∷ ys)
      → nodes.at p ≡ Some (Some (ALeaf (record { feature = f; previous = last_or previous xs; next = head_or_zero ys; legs = legs_at p })))
  leaf_split most f previous page left [] p ys c =
      let l = c.1 in
      let next : l.leaf.next ≡ head_or_zero ys = sym (ap next_in l.is) ∙ next_is ys c.2 in
      let legs : l.leaf.legs ≡ legs_at p = sym (ap legs_in l.is) in
      l.is ∙ (λ i. Some (Some (ALeaf (record { feature = l.feature_is i; previous = l.previous_is i; next = next i; legs = legs i }))))
    where
      next_is : (ys : List ℕ) → AreLeavesFrom nodes most f p (next_in (nodes.at p)) (left - most) ys → next_in (nodes.at p) ≡ head_or_zero ys
      next_is [] h = h.1
      next_is (q ∷ qs) h = h.0
  leaf_split most f previous page left (x ∷ xs) p ys c = leaf_split most f x (next_in (nodes.at x)) (left - most) xs p ys c.2

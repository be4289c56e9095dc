-- Legs of one feature, put in part by part.
use Rattle.std.proofs.Common.{ℕ, refl, ◌+◌, ◌-◌, ◌≤◌, ◌≡◌, arith, All, List, [], ◌∷◌, ◌++◌, take, drop, length, sym, ap, ◌∙◌, subst, append_assoc, Result, Ok, Err}
use Rattle.std.proofs.lemmas.List.{append-nil, take-append-drop, length-take-le, length-drop}
use Rattle.std.proofs.lemmas.List.Elements.{All-take, All-drop}
use Rattle.std.proofs.Math.Seq.{take-add, take-append_seam, drop-append_seam}
use Rattle.std.specs.Prelude.{IsTrue}
use Rattle.pagecache.specs.Cache.{Cache}
use Rattle.tbtree.proofs.PassLemmas.{touches_none, touches_then}
use Rattle.tbtree.proofs.Still.{still}
use Rattle.legs.specs.Boxes.{BoxView}
use Rattle.legs.specs.Legs.{LegView}
use Rattle.tbtree.specs.Insert.{IsPlace}
use Rattle.tbtree.specs.Joining.{CanJoinInTurn, Fills, Holds, JoinsAll}
use Rattle.tbtree.specs.Nodes.{Pages, pages_of_cache}
use Rattle.tbtree.specs.declared.fault.TreeFault.{TreeFault}
use Rattle.tbtree.specs.declared.tree.Place.{Place}
use Rattle.tbtree.specs.declared.tree.TbTree.{TbTree}

all_front : {X : Type 0} (P : X → Type 0) (xs ys : List X) → All P (xs ++ ys) → All P xs
all_front P xs ys all = subst (λ l. All P l) (take-append_seam xs ys) (All-take P (length xs) (xs ++ ys) all)

all_back : {X : Type 0} (P : X → Type 0) (xs ys : List X) → All P (xs ++ ys) → All P ys
all_back P xs ys all = subst (λ l. All P l) (drop-append_seam xs ys) (All-drop P (length xs) (xs ++ ys) all)

in_turn_front : (b xs ys : List LegView) → CanJoinInTurn b (xs ++ ys) → CanJoinInTurn b xs
in_turn_front b [] ys w = tt
in_turn_front b (x ∷ xs) ys w = (w.0, in_turn_front (b ++ x ∷ []) xs ys w.1)

in_turn_back : (b xs ys : List LegView) → CanJoinInTurn b (xs ++ ys) → CanJoinInTurn (b ++ xs) ys
in_turn_back b [] ys w = subst (λ l. CanJoinInTurn l ys) (sym (append-nil b)) w
in_turn_back b (x ∷ xs) ys w = subst (λ l. CanJoinInTurn l ys) (append_assoc b (x ∷ []) xs) (in_turn_back (b ++ x ∷ []) xs ys w.1)

-- no leg changes nothing
joins_none : (nodes : Pages LegView BoxView) (tree : TbTree) (place : Place) → JoinsAll nodes nodes tree tree place place [] (Ok tt)
joins_none nodes tree place f legs pages st at all w =
    let same : legs ≡ legs ++ [] = sym (append-nil legs) in
    record {
      pages = pages;
      stands = subst (λ l. Holds nodes tree l pages) same st;
      placed = subst (λ l. IsPlace tree l pages f place) same at;
      others = λ g other ne p. subst (λ l. IsPlace tree l pages g other) same p;
    }

module _ (a b c : Pages LegView BoxView) (t u v : TbTree) (p q r : Place) (xs ys : List LegView) where
  -- some legs, and then others
  then_joins : (res : Result (Unit {0}) TreeFault) → JoinsAll a b t u p q xs (Ok tt) → JoinsAll b c u v q r ys res → JoinsAll a c t v p r (xs ++ ys) res
  then_joins (Ok w) first more f legs pages st at all turn =
      let P : LegView → Type 0 = λ y. y.feature ≡ f in
      let i = first f legs pages st at (all_front P xs ys all) (in_turn_front legs xs ys turn) in
      let j = more f (legs ++ xs) i.pages i.stands i.placed (all_back P xs ys all) (in_turn_back legs xs ys turn) in
      let same : (legs ++ xs) ++ ys ≡ legs ++ (xs ++ ys) = append_assoc legs xs ys in
      record {
        pages = j.pages;
        stands = subst (λ l. Holds c v l j.pages) same j.stands;
        placed = subst (λ l. IsPlace v l j.pages f r) same j.placed;
        others = λ g other ne o. subst (λ l. IsPlace v l j.pages g other) same (j.others g other ne (i.others g other ne o));
      }
  then_joins (Err x) first more f legs pages st at all turn =
      let P : LegView → Type 0 = λ y. y.feature ≡ f in
      let i = first f legs pages st at (all_front P xs ys all) (in_turn_front legs xs ys turn) in
      more f (legs ++ xs) i.pages i.stands i.placed (all_back P xs ys all) (in_turn_back legs xs ys turn)

-- what refuses the first legs refuses all
refused_front : (a c : Pages LegView BoxView) (t v : TbTree) (p r : Place) (xs ys : List LegView) (x : TreeFault) → JoinsAll a c t v p r xs (Err x) → JoinsAll a c t v p r (xs ++ ys) (Err x)
refused_front a c t v p r xs ys x h f legs pages st at all turn = h f legs pages st at (all_front (λ y. y.feature ≡ f) xs ys all) (in_turn_front legs xs ys turn)

module _ {X : Type 0} (xs : List X) (n k : ℕ) where
  -- the k elements after the first n
  part_is : take (n + k - n) (drop n xs) ≡ take k (drop n xs)
  part_is = ap (λ m. take m (drop n xs)) (omega arith)

  pub length_part : n + k ≤ length xs → length (take (n + k - n) (drop n xs)) ≡ k
  length_part h = ap length part_is ∙ length-take-le k (drop n xs) (let l = length-drop n xs in omega (arith, l, h))

pub fills_none : (a : Cache) (t : TbTree) (p : Place) → Fills a a t t p p [] (Ok tt)
fills_none a t p = record { joins = λ _. joins_none (pages_of_cache a) t p; spent = refl; shape = refl; touches = touches_none a tt }

module _ (a b c : Cache) (t u v : TbTree) (p q r : Place) (legs : List LegView) (n k : ℕ) (first : Fills a b t u p q (take n legs) (Ok tt)) where
  module _ (res : Result (Unit {0}) TreeFault) (more : Fills b c u v q r (take (n + k - n) (drop n legs)) res) where
    -- the first legs with a part more
    joins_both : IsTrue a.store.is_faithful → JoinsAll (pages_of_cache a) (pages_of_cache c) t v p r (take n legs ++ take k (drop n legs)) res
    joins_both fa =
        then_joins (pages_of_cache a) (pages_of_cache b) (pages_of_cache c) t u v p q r (take n legs) (take k (drop n legs)) res (first.joins fa)
        (subst (λ l. JoinsAll (pages_of_cache b) (pages_of_cache c) u v q r l res) (part_is legs n k) (more.joins (still _ _ first.touches.passes.store.faithful fa)))

    fills_both : (ys : List LegView) → (IsTrue a.store.is_faithful → JoinsAll (pages_of_cache a) (pages_of_cache c) t v p r ys res) → Fills a c t v p r ys res
    fills_both ys joins = record { joins = joins; spent = more.spent ∙ first.spent; shape = more.shape ∙ first.shape; touches = touches_then a b c tt res first.touches more.touches }

  -- a part more of a list
  pub fills_more : Fills b c u v q r (take (n + k - n) (drop n legs)) (Ok tt) → Fills a c t v p r (take (n + k) legs) (Ok tt)
  fills_more more = fills_both (Ok tt) more (take (n + k) legs) (λ fa. subst (λ l. JoinsAll (pages_of_cache a) (pages_of_cache c) t v p r l (Ok tt)) (sym (take-add n k legs)) (joins_both (Ok tt) more fa))

  pub fills_refused : (x : TreeFault) → Fills b c u v q r (take (n + k - n) (drop n legs)) (Err x) → Fills a c t v p r legs (Err x)
  fills_refused x more = fills_both (Err x) more legs (λ fa.
      subst (λ l. JoinsAll (pages_of_cache a) (pages_of_cache c) t v p r l (Err x)) (ap (λ l. l ++ drop (n + k) legs) (sym (take-add n k legs)) ∙ take-append-drop (n + k) legs)
      (refused_front (pages_of_cache a) (pages_of_cache c) t v p r (take n legs ++ take k (drop n legs)) (drop (n + k) legs) x (joins_both (Err x) more fa)))

-- The order in which elements fill run after run, the runs in order of their first elements.
use Rattle.std.specs.Prelude.{ℕ, suc, ◌==◌, cond, nat_lt, List, [], ◌∷◌, ◌++◌, map}
use Rattle.legs.specs.Blocks.{begins}
use Rattle.legs.specs.Legs.{LegView}
use Rattle.legs.specs.Costs.{leg_feature}
use Rattle.legs.specs.Index.{feature_count}

module _ {X : Type 0} where
  -- an element with the number of its run is put among others, before the first whose number is higher
  abbrev pub put_in : ℕ × X → List (ℕ × X) → List (ℕ × X)
  put_in p [] = p ∷ []
  put_in p (q ∷ qs) = cond (nat_lt p.0 q.0) (p ∷ q ∷ qs) (q ∷ put_in p qs)

  -- elements with their numbers, put among others one after another
  abbrev pub put_all : List (ℕ × X) → List (ℕ × X) → List (ℕ × X)
  put_all out [] = out
  put_all out (p ∷ ps) = put_all (put_in p out) ps

  -- the elements without their numbers
  abbrev pub elements : List (ℕ × X) → List X
  elements ps = map (λ p. p.1) ps

module _ {X : Type 0} (key : X → ℕ) (n : ℕ) where
  -- the number of the run that takes x, after those before it; it is `made` where x begins one
  abbrev pub run_for : (ℕ → ℕ) → List X → ℕ → X → ℕ
  run_for last before made x = cond (begins key n before x) made (last (key x))

  -- the numbers of the last runs, with another one for a key
  abbrev pub with_last : (ℕ → ℕ) → ℕ → ℕ → ℕ → ℕ
  with_last last f v g = cond (g == f) v (last g)

  -- each element with the number of its run
  abbrev pub numbered : (ℕ → ℕ) → List X → ℕ → List X → List (ℕ × X)
  numbered last before made [] = []
  numbered last before made (x ∷ xs) =
      (run_for last before made x, x)
      ∷ numbered (with_last last (key x) (run_for last before made x))
      (before ++ x ∷ []) (suc made) xs

  -- run by run: those that go on runs that are there, which are numbered by their keys, and then each new run
  abbrev pub in_blocks : ℕ → List X → List X → List X
  in_blocks made before xs = elements (put_all [] (numbered (λ f. f) before made xs))

-- legs in the order in which they fill leaf after leaf, after those before them
abbrev pub leaf_by_leaf : ℕ → List LegView → List LegView → List LegView
leaf_by_leaf leaf before legs = in_blocks leg_feature leaf (feature_count before) before legs

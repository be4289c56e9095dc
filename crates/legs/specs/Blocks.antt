-- The blocks that a list of legs is cut into for a tree over pages, computed from the list alone. Level 0 cuts
-- each feature's legs into runs, the leaves; each further level groups consecutive blocks of the one below.
use Rattle.std.specs.Prelude.{ℕ, ◌*◌, ◌%◌, ◌^◌, ◌==◌, Bool, cond, ◌&&◌, nat_lt, List, [], ◌∷◌, ◌++◌, take, drop, length, count_by}
use Rattle.std.specs.List.{filter}

module _ {X : Type 0} (key : X → ℕ) (n : ℕ) where
  -- two keys are the same
  abbrev pub same : X → X → Bool
  same x y = key y == key x

  -- x begins a run after those before it: they have a multiple of n of its key
  abbrev pub begins : List X → X → Bool
  begins before x = count_by (same x) before % n == 0

  -- the runs that begin in xs: each has the next n elements of one key, the last of a key may have less
  abbrev pub runs_after : List X → List X → List (List X)
  runs_after before [] = []
  runs_after before (x ∷ xs) =
      cond (begins before x) (take n (x ∷ filter (same x) xs) ∷ runs_after (before ++ x ∷ []) xs)
      (runs_after (before ++ x ∷ []) xs)

  -- the elements of each key in runs of n, the runs in order of their first elements
  abbrev pub runs : List X → List (List X)
  runs xs = runs_after [] xs

  -- a run after y has been added to the list
  abbrev pub grown : X → List X → List X
  grown y [] = []
  grown y (x ∷ xs) = cond (same x y && nat_lt (length (x ∷ xs)) n) ((x ∷ xs) ++ y ∷ []) (x ∷ xs)

  -- the new run, where y begins one
  abbrev pub begun : List X → X → List (List X)
  begun before y = cond (begins before y) ((y ∷ []) ∷ []) []

-- each n consecutive elements
abbrev pub groups : {X : Type 0} → ℕ → List X → List (List X)
groups n xs = runs (λ _. 0) n xs

-- level 0: the legs of each feature in runs of leaf, in order of their first legs
abbrev pub leaves : {L : Type 0} → (L → ℕ) → ℕ → List L → List (List L)
leaves feature leaf legs = runs feature leaf legs

-- level k: each block by the leaves below it
abbrev pub level : {R : Type 0} → ℕ → ℕ → List R → List (List R)
level inner k rs = groups (inner ^ k) rs

-- the j-th n elements
abbrev pub block : {X : Type 0} → ℕ → ℕ → List X → List X
block n j xs = take n (drop (j * n) xs)

-- the elements of lists, one list after another
abbrev pub joined : {X : Type 0} → List (List X) → List X
joined [] = []
joined (xs ∷ xss) = xs ++ joined xss

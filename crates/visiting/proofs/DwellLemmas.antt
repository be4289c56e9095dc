-- The two sums of a dwell.
use Rattle.std.proofs.Common.{ℕ, ◌≡◌, ◌+◌, ◌*◌, ◌≤◌, ◌∷◌, [], All, List, true, arith}
use Rattle.std.specs.Prelude.{fold}
use Rattle.std.proofs.lemmas.List.Elements.{All-nil}
use Rattle.visiting.specs.Dwells.{dwell_of, dwell_with, dwells_of, first_dwell, sum_of}
use Rattle.visiting.specs.declared.dwells.Dwell.{Dwell}
use Rattle.visiting.proofs.JoinLemmas.{all_hold}

-- they are 2 apart a visit at most
abbrev pub IsNear : Dwell → Type 0
IsNear dwell = dwell.most ≤ (dwell.least + 2 * dwell.visits)

sums_near : (v l m a b : ℕ) → m ≤ (l + 2 * v) → b ≤ (a + 2) → sum_of m b ≤ (sum_of l a + 2 * sum_of v 1)
sums_near v l m a b h k = omega (arith, h, k)

near_with : (dwell : Dwell) (least most : ℕ) → IsNear dwell → most ≤ (least + 2) → IsNear (dwell_with dwell least most)
near_with dwell least most h k = sums_near dwell.visits dwell.least dwell.most least most h k

near_none : (feature : ℕ) → IsNear (dwell_of feature)
near_none feature = omega arith

all_true : {V : Type 0} (visits : List V) → All (λ visit. Unit {0}) visits
all_true visits i visit less = tt

pub near_all : {V : Type 0} (feature least most : V → ℕ) (near : (visit : V) → most visit ≤ (least visit + 2)) (visits : List V) → All IsNear (dwells_of feature least most visits)
near_all feature least most near visits =
    all_hold (λ (dwell : Dwell). dwell.feature) feature (first_dwell feature least most) (λ dwell visit. true) (λ dwell visit. dwell_with dwell (least visit) (most visit)) IsNear (λ visit. Unit {0})
    (λ visit h. near_with (dwell_of (feature visit)) (least visit) (most visit) (near_none (feature visit)) (near visit))
    (λ dwell visit h k e. near_with dwell (least visit) (most visit) h (near visit)) visits [] (All-nil IsNear) (all_true visits)

-- A tree of fewer than 2^32 leaves has fewer than 34 levels.
use Rattle.std.proofs.Common.{ℕ, ◌-◌, ◌^◌, ◌<◌, ◌≤◌, List, length, arith, ⊎_elim}
use Rattle.std.proofs.Math.Nat.{pow-le-pow_left, pow-le-pow_right}
use Rattle.std.proofs.lemmas.Bool.{cases_lt}
use Rattle.legs.specs.Blocks.{groups, level}
use Rattle.tbtree.specs.Stands.{NumbersStand}
use Rattle.tbtree.proofs.FullLemmas.{one_group}

-- more than one group of m needs more than m elements
pub wide_level : {X : Type 0} (m : ℕ) (xs : List X) → 0 < length xs → 1 < length (groups m xs) → m < length xs
wide_level m xs some many = ⊎_elim (λ (h : m < length xs). h) (λ (h : length xs ≤ m). absurd (let one = one_group m xs some h in omega (arith, one, many))) (cases_lt m (length xs))

pub low_tree : {L : Type 0} (inner levels root count : ℕ) (runs : List (List L)) (pages : ℕ → List ℕ) → 2 ≤ inner → NumbersStand inner levels root count runs pages → 0 < length runs → length runs < 2 ^ 32 → levels < 34
low_tree inner levels root count runs pages wide n some few =
    ⊎_elim (λ (h : levels < 34). h)
    (λ (h : 34 ≤ levels).
    let k = levels - 2 in
    let many : 1 < length (level inner k runs) = n.below_top k (omega (arith, h)) in
    let wider : inner ^ k < length runs = wide_level (inner ^ k) runs some many in
    let power : 2 ^ k ≤ inner ^ k = pow-le-pow_left wide k in
    let least : 2 ^ 32 ≤ 2 ^ k = pow-le-pow_right {n = 2} (omega arith) {i = 32} {j = k} (omega (arith, h)) in
    absurd (omega (arith, wider, power, least, few)))
    (cases_lt levels 34)

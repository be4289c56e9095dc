-- Eight results of a function, as its map.
use Rattle.std.proofs.Common.{◌≡◌, ℕ, ◌<◌, ◌+◌, List, length, map, get_or, arith, ap, ◌∙◌}
use Rattle.std.proofs.lemmas.List.{take_all}
use Rattle.digests.proofs.BatchLemmas.{eight_results}

pub all_eight : {X Y : Type 0} (f : X → Y) (xs : List X) (d : X) (e : Y) (all : List Y) → length xs ≡ 8 → length all ≡ 8
    → ((k : ℕ) → k < 8 → get_or all k e ≡ f (get_or xs k d)) → all ≡ map f xs
all_eight f xs d e all few long same =
    eight_results f xs 0 d e all long (omega arith) (λ k lt. let z : k ≡ 0 + k = omega arith in same k lt ∙ ap (λ i. f (get_or xs i d)) z)
    ∙ ap (map f) (take_all 8 xs (omega arith))

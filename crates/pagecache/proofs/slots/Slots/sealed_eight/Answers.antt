use Rattle.std.proofs.Common.{ap, ℕ, List, [], get_or}
use Rattle.digests.proofs.PageLemmas.{below_eight}
use Rattle.pagecache.proofs.MemoryLemmas.{shown_seals}
use Rattle.pagecache.proofs.slots.Slots.sealed_eight.Goals as goal

pub returns : goal.returns
returns g c =
    let e = c.seal_eight.ensures in
    below_eight _
    (shown_seals _ _ _ c.zero-other.result _ (ap (λ (xs : List (List ℕ)). get_or xs 0 []) e) c.shown.ensures)
    (shown_seals _ _ _ c.zero-other.result _ (ap (λ (xs : List (List ℕ)). get_or xs 1 []) e) c.shown-2.ensures)
    (shown_seals _ _ _ c.zero-other.result _ (ap (λ (xs : List (List ℕ)). get_or xs 2 []) e) c.shown-3.ensures)
    (shown_seals _ _ _ c.zero-other.result _ (ap (λ (xs : List (List ℕ)). get_or xs 3 []) e) c.shown-4.ensures)
    (shown_seals _ _ _ c.zero-other.result _ (ap (λ (xs : List (List ℕ)). get_or xs 4 []) e) c.shown-5.ensures)
    (shown_seals _ _ _ c.zero-other.result _ (ap (λ (xs : List (List ℕ)). get_or xs 5 []) e) c.shown-6.ensures)
    (shown_seals _ _ _ c.zero-other.result _ (ap (λ (xs : List (List ℕ)). get_or xs 6 []) e) c.shown-7.ensures)
    (shown_seals _ _ _ c.zero-other.result _ (ap (λ (xs : List (List ℕ)). get_or xs 7 []) e) c.shown-8.ensures)

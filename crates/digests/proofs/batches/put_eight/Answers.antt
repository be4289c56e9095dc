use Rattle.std.proofs.Common.{rules, ◌≡◌, ℕ, List, [], ◌++◌, ◌+◌, Bor, take, drop, map, length, get_or, add-zero, arith, ap, ◌∙◌}
use Rattle.std.proofs.lemmas.Slice.{take-put_mid}
use Rattle.digests.proofs.BatchLemmas.{eight_results}
use Rattle.digests.proofs.PageLemmas.{below_eight}
use Rattle.digests.specs.Pages.{digest_of}
use Rattle.digests.proofs.batches.put_eight.Goals as goal

pub returns-clause-written : goal.returns-clause-written
returns-clause-written c =
    let f = λ (p : Bor (List ℕ)). digest_of p.now in
    let at = c.args.at in
    let out = c.args.out.now in
    let pages = c.args.pages.now in
    let none : Bor (List ℕ) = record { ref_ptr = (0, 0); now = [] } in
    let all = c.digests-all.result in
    let e = c.digests-all.ensures in
    let len : length all ≡ 8 = search rules in
    let same : all ≡ map f (take 8 (drop at pages)) =
    eight_results f pages at none [] all len c.requires.pages (below_eight (λ k. get_or all k [] ≡ f (get_or pages (at + k) none))
    (rw add-zero (e 0 (omega arith))) (e 1 (omega arith)) (e 2 (omega arith)) (e 3 (omega arith))
    (e 4 (omega arith)) (e 5 (omega arith)) (e 6 (omega arith)) (e 7 (omega arith))) in
    let after = c.copy_from_slice.ensures.after in
    let long : length c.copy_from_slice.new.self ≡ 8 = ap length after ∙ len in
    take-put_mid at _ out c.copy_from_slice.new.self (at + 8) (omega arith) (omega arith)
    ∙ ap (λ ys. take at out ++ ys) (after ∙ same)

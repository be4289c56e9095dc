use Rattle.std.proofs.Common.{◌≡◌, ℕ, List, Bor, ap, sym, ◌+◌, ◌*◌, ◌∙◌, [], arith}
use Rattle.std.proofs.Math.ListN.{get_or-map}
use Rattle.sha2.specs.Sha256.{word_at}
use Rattle.digests.specs.Lanes.{lane_at}
use Rattle.digests.proofs.PageLemmas.{below_eight}
use Rattle.digests.specs.Pages.{page}
use Rattle.digests.proofs.load.four_words.Goals as goal

pub returns : goal.returns
returns c = λ i j li lj.
    let none : Bor (List ℕ) = record { ref_ptr = (0, 0); now = [] } in
    let named = λ (k : ℕ). ap (λ (x : List ℕ). word_at x (c.args.at + 4 * i)) (sym (get_or-map (λ (p : Bor (List ℕ)). p.now) c.args.pages.now k none)) in
    below_eight (λ j. lane_at c.turn.result i j ≡ word_at (page j c.args.pages.now) (c.args.at + 4 * i))
    (c.turn.ensures.low i 0 li (omega arith) ∙ c.pair.ensures.low i li ∙ c.four_of.ensures i li ∙ named 0)
    (c.turn.ensures.low i 1 li (omega arith) ∙ c.pair-2.ensures.low i li ∙ c.four_of-3.ensures i li ∙ named 1)
    (c.turn.ensures.low i 2 li (omega arith) ∙ c.pair-3.ensures.low i li ∙ c.four_of-5.ensures i li ∙ named 2)
    (c.turn.ensures.low i 3 li (omega arith) ∙ c.pair-4.ensures.low i li ∙ c.four_of-7.ensures i li ∙ named 3)
    (c.turn.ensures.high i 0 li (omega arith) ∙ c.pair.ensures.high i li ∙ c.four_of-2.ensures i li ∙ named 4)
    (c.turn.ensures.high i 1 li (omega arith) ∙ c.pair-2.ensures.high i li ∙ c.four_of-4.ensures i li ∙ named 5)
    (c.turn.ensures.high i 2 li (omega arith) ∙ c.pair-3.ensures.high i li ∙ c.four_of-6.ensures i li ∙ named 6)
    (c.turn.ensures.high i 3 li (omega arith) ∙ c.pair-4.ensures.high i li ∙ c.four_of-8.ensures i li ∙ named 7)
    j lj

use Rattle.std.proofs.Common.{ℕ, List, ◌∙◌, ap, arith}
use Rattle.sha2.specs.Sha256.{digest_bytes, sha256}
use Rattle.digests.proofs.PageLemmas.{below_eight}
use Rattle.digests.proofs.hashing.digests.Goals as goal

pub returns : goal.returns
unfolding sha256
returns c =
    let bytes = λ (h : List ℕ). digest_bytes h 8 in
    let hash = c.hash-state.ensures in
    below_eight _
    (c.bytes_of.ensures ∙ ap bytes (c.lane_of.ensures ∙ hash 0 (omega arith)))
    (c.bytes_of-2.ensures ∙ ap bytes (c.lane_of-2.ensures ∙ hash 1 (omega arith)))
    (c.bytes_of-3.ensures ∙ ap bytes (c.lane_of-3.ensures ∙ hash 2 (omega arith)))
    (c.bytes_of-4.ensures ∙ ap bytes (c.lane_of-4.ensures ∙ hash 3 (omega arith)))
    (c.bytes_of-5.ensures ∙ ap bytes (c.lane_of-5.ensures ∙ hash 4 (omega arith)))
    (c.bytes_of-6.ensures ∙ ap bytes (c.lane_of-6.ensures ∙ hash 5 (omega arith)))
    (c.bytes_of-7.ensures ∙ ap bytes (c.lane_of-7.ensures ∙ hash 6 (omega arith)))
    (c.bytes_of-8.ensures ∙ ap bytes (c.lane_of-8.ensures ∙ hash 7 (omega arith)))

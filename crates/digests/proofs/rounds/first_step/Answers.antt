use Rattle.std.proofs.Common.{refl, sym}
use Rattle.sha2.proofs.Schedule256.{rounds_first}
use Rattle.digests.specs.Lanes.{lane, state_lane}
use Rattle.digests.proofs.LaneLemmas.{slice_index-lane}
use Rattle.digests.proofs.rounds.first_step.Goals as goal

pub returns : goal.returns
returns c = λ b h j lt window held.
    rounds_first b h (lane j c.args.words.now) (state_lane j c.args.working) c.args.number _ _ _ c.requires window held refl
    (sym (slice_index-lane c.args.words.now j c.args.number)) (c.round.ensures j lt)

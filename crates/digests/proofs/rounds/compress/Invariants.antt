use Rattle.std.proofs.Common.{◌≡◌, ℕ, ◌<◌, ◌*◌, List, slice_index}
use Rattle.sha2.specs.Sha256.{IsRoundsAt, word_at}
use Rattle.digests.specs.Lanes.{lane, state_lane}
use Rattle.digests.proofs.rounds.compress.Given as goal

abbrev pub invariant-schedule : goal.invariant-schedule
invariant-schedule l = (b : List ℕ) (j : ℕ) → j < 8
    → ((k : ℕ) → k < 16 → slice_index (lane j l.block) k ≡ word_at b (4 * k))
    → IsRoundsAt b (state_lane j l.state) (lane j l.words) (state_lane j l.working) (16 * l.turn)

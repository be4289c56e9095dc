use Rattle.std.proofs.Common.{◌≡◌, ℕ, ◌<◌, length, take}
use Rattle.sha2.specs.Sha256.{hash_after, initial_hash_256, padded_message}
use Rattle.digests.specs.Lanes.{state_lane}
use Rattle.digests.specs.Pages.{page}
use Rattle.digests.proofs.hashing.hash.Given as goal

abbrev pub invariant-blocks-2 : goal.invariant-blocks-2
invariant-blocks-2 l = (j : ℕ) → j < 8 → length (page j l.pages) ≡ 4096
    → state_lane j l.state ≡ hash_after initial_hash_256 (padded_message (take 4064 (page j l.pages))) l.number

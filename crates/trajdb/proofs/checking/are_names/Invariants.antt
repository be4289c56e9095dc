use Rattle.std.proofs.Common.{ℕ, ◌<◌}
use Rattle.trajdb.specs.Db.{IsOwnName}
use Rattle.trajdb.proofs.checking.are_names.Given as goal

abbrev pub invariant-loop-feature : goal.invariant-loop-feature
invariant-loop-feature l = (f : ℕ) → f < l.feature → IsOwnName l.tracks.names f

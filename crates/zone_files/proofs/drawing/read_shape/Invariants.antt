use Rattle.std.proofs.Common.{length}
use Rattle.zone_files.proofs.drawing.read_shape.Given as goal

abbrev pub decreases-tokens : goal.decreases-tokens
decreases-tokens l = length l.rest

use Rattle.zone_windows.specs.Parts.{ArePartsOf}
use Rattle.zone_windows.proofs.windows.Windows.of.Given as goal

-- all parts so far are parts of the zone
abbrev pub invariant-loop-place : goal.invariant-loop-place
invariant-loop-place l = ArePartsOf l.rings.items l.parts.items

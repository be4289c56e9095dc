use Rattle.std.proofs.Common.{All, drop}
use Rattle.zoning.specs.Stays.{AllInside, IsOf}
use Rattle.zoning.proofs.HeldLemmas.{IsGoing}
use Rattle.zoning.proofs.stay.stays_in.Given as goal

-- the cuts that are left are parts, and the stays over them complete those over all
abbrev pub invariant-loop-cut : goal.invariant-loop-cut
invariant-loop-cut l = record {
  inside : AllInside (drop l.cut-index l.cuts);
  going : IsGoing l.leg l.cuts (drop l.cut-index l.cuts) l.stays.items;
  each : All (IsOf l.leg l.period) l.stays.items;
}

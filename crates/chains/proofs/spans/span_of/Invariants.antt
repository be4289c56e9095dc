use Rattle.std.proofs.Common.{◌≤◌, ◌<◌, ◌-◌, length, take, All}
use Rattle.legs.specs.Legs.{LegView}
use Rattle.chains.specs.Spans.{IsWithin}
use Rattle.chains.proofs.SpanLemmas.{HasAt}
use Rattle.chains.proofs.spans.span_of.Given as goal

abbrev pub decreases-legs : goal.decreases-legs
decreases-legs l = length l.leaf.legs - l.i

-- the legs so far are within the span, and reach its ends
abbrev pub invariant-legs : goal.invariant-legs
invariant-legs l = record {
  some : 0 < l.i;
  within : l.i ≤ length l.leaf.legs;
  each : All (IsWithin l.start l.end) (take l.i l.leaf.legs);
  starts : HasAt (λ (leg : LegView). leg.t0) l.leaf.legs l.i l.start;
  ends : HasAt (λ (leg : LegView). leg.t1) l.leaf.legs l.i l.end;
}

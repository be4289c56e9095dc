use Rattle.std.proofs.Common.{rules, w64}
use Rattle.std.specs.Prelude.{FitsSigned}
use Rattle.legs.proofs.BoxLemmas.{and_is, intervals_at, meets_in_a_point}
use Rattle.legs.proofs.boxes.Box3.meets.Goals as goal

pub returns-then-meets_in_plane-clause-point : goal.returns-then-meets_in_plane-clause-point
returns-then-meets_in_plane-clause-point c =
    let a : FitsSigned w64 c.self.inside.t_min = search rules in
    let b : FitsSigned w64 c.self.inside.t_max = search rules in
    let d : FitsSigned w64 c.other.inside.t_min = search rules in
    let e : FitsSigned w64 c.other.inside.t_max = search rules in
    rw (← c.self.view_is, ← c.other.view_is)
    (meets_in_a_point _ _ _ c.self.invariant c.other.invariant
    (and_is _ _ _ _ (rw (← c.self.view_is, ← c.other.view_is) at c.meets_in_plane.ensures) c.if-meets_in_plane.true (intervals_at _ _ _ _ _ a b d e c.intervals_meet.ensures)))

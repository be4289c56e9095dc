use Rattle.std.proofs.Common.{rules, w64}
use Rattle.std.specs.Prelude.{FitsSigned}
use Rattle.legs.proofs.BoxLemmas.{and_is, intervals_at}
use Rattle.legs.proofs.boxes.Box3.meets_in_plane.Goals as goal

pub returns-then-intervals_meet : goal.returns-then-intervals_meet
returns-then-intervals_meet c =
    let a : FitsSigned w64 c.self.inside.x_min = search rules in
    let b : FitsSigned w64 c.self.inside.x_max = search rules in
    let d : FitsSigned w64 c.other.inside.x_min = search rules in
    let e : FitsSigned w64 c.other.inside.x_max = search rules in
    let f : FitsSigned w64 c.self.inside.y_min = search rules in
    let g : FitsSigned w64 c.self.inside.y_max = search rules in
    let h : FitsSigned w64 c.other.inside.y_min = search rules in
    let k : FitsSigned w64 c.other.inside.y_max = search rules in
    rw (← c.self.view_is, ← c.other.view_is)
    (and_is _ _ _ _ (intervals_at _ _ _ _ _ a b d e c.intervals_meet.ensures) c.if-intervals_meet.true (intervals_at _ _ _ _ _ f g h k c.intervals_meet-then-intervals_meet.ensures))

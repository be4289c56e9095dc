use Rattle.std.proofs.Common.{◌≡◌, true, false, sym, ◌∙◌}
use Rattle.zones.specs.Places.{Edge, CourseView}
use Rattle.zones.specs.Turns.{is_steep}
use Rattle.zones.proofs.Shrinking.{through, side_shrunk, height_shrunk, width_shrunk}
use Rattle.zones.proofs.turns.turn_of_edge.Goals as goal

pub returns-then-is_steep : goal.returns-then-is_steep
returns-then-is_steep c =
    let l : CourseView = c.args.course.now in
    let e : Edge = record { from = c.args.from.now; to = c.args.to.now } in
    let f = c.args.first in
    let last = c.args.last in
    let a = c.turn_of_line-on_line.result in
    let b = c.turn_upwards-at_from.result in
    let k = c.turn_upwards-at_to.result in
    let ka = through k.num k.den b.num b.den a.num a.den k.positive b.positive a.positive c.turn_upwards-at_to.ensures.up_to c.turn_upwards-at_from.ensures.up_to in
    let steep : true ≡ is_steep e = sym c.if-is_steep.true ∙ c.is_steep.ensures in
    record {
      after = c.turn_upwards-at_to.ensures.after;
      up_to = through k.num k.den a.num a.den last.num last.den k.positive a.positive last.positive ka c.turn_of_line-on_line.ensures.up_to;
      calm = record {
        side = side_shrunk l f.num f.den k.num k.den a.num a.den f.positive k.positive a.positive c.turn_upwards-at_to.ensures.after ka e c.turn_of_line-on_line.ensures.calm;
        from = height_shrunk l f.num f.den k.num k.den b.num b.den f.positive k.positive b.positive c.turn_upwards-at_to.ensures.after c.turn_upwards-at_to.ensures.up_to e.from c.turn_upwards-at_from.ensures.calm;
        to = c.turn_upwards-at_to.ensures.calm;
        x_from = λ h. let no : true ≡ false = steep ∙ h in absurd (cc);
        x_to = λ h. let no : true ≡ false = steep ∙ h in absurd (cc);
      };
    }

pub returns : goal.returns
returns c =
    let l : CourseView = c.args.course.now in
    let e : Edge = record { from = c.args.from.now; to = c.args.to.now } in
    let f = c.args.first in
    let last = c.args.last in
    let a = c.turn_of_line-on_line.result in
    let b = c.turn_upwards-at_from.result in
    let k = c.turn_upwards-at_to.result in
    let o = c.turn_sideways-over_from.result in
    let r = c.turn_sideways.result in
    let ro = c.turn_sideways.ensures.up_to in
    let rk = through r.num r.den o.num o.den k.num k.den r.positive o.positive k.positive ro c.turn_sideways-over_from.ensures.up_to in
    let rb = through r.num r.den k.num k.den b.num b.den r.positive k.positive b.positive rk c.turn_upwards-at_to.ensures.up_to in
    let ra = through r.num r.den b.num b.den a.num a.den r.positive b.positive a.positive rb c.turn_upwards-at_from.ensures.up_to in
    let after = c.turn_sideways.ensures.after in
    record {
      after = after;
      up_to = through r.num r.den a.num a.den last.num last.den r.positive a.positive last.positive ra c.turn_of_line-on_line.ensures.up_to;
      calm = record {
        side = side_shrunk l f.num f.den r.num r.den a.num a.den f.positive r.positive a.positive after ra e c.turn_of_line-on_line.ensures.calm;
        from = height_shrunk l f.num f.den r.num r.den b.num b.den f.positive r.positive b.positive after rb e.from c.turn_upwards-at_from.ensures.calm;
        to = height_shrunk l f.num f.den r.num r.den k.num k.den f.positive r.positive k.positive after rk e.to c.turn_upwards-at_to.ensures.calm;
        x_from = λ h. width_shrunk l f.num f.den r.num r.den o.num o.den f.positive r.positive o.positive after ro e.from c.turn_sideways-over_from.ensures.calm;
        x_to = λ h. c.turn_sideways.ensures.calm;
      };
    }

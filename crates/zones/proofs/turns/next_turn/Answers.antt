use Rattle.std.proofs.Common.{◌+◌, drop, List, [], ◌≡◌, arith, sym, subst}
use Rattle.std.proofs.lemmas.Int.{ints}
use Rattle.std.proofs.lemmas.List.{drop_all}
use Rattle.zones.specs.Places.{Corner, CourseView, point_at}
use Rattle.zones.specs.Zones.{edges, zone_edges}
use Rattle.zones.specs.Turns.{AllCalm}
use Rattle.zones.proofs.ZoneLemmas.{cut}
use Rattle.zones.proofs.Shrinking.{through, all_calm_shrunk, calm_append}
use Rattle.zones.proofs.turns.next_turn.Goals as goal

pub loop-ring-init : goal.loop-ring-init
loop-ring-init c = record { after = c.requires.order; up_to = omega (arith, ints); calm = λ n d z a u k. k }

pub loop-ring-preserved : goal.loop-ring-preserved
loop-ring-preserved c =
    let l : CourseView = c.args.course.now in
    let f = c.args.first in
    let last = c.args.last in
    let rs : List (List Corner) = c.args.rings.now in
    let i = c.loop-ring.ring-index in
    let ring : List Corner = c.ring-item.result in
    let t = c.loop-ring.turn in
    let s = c.turn_round-turn.result in
    let split = cut rs i ring c.loop-ring-test.true c.ring-item.is in
    record {
      after = c.turn_round-turn.ensures.after;
      up_to = through s.num s.den t.num t.den last.num last.den s.positive t.positive last.positive c.turn_round-turn.ensures.up_to c.loop-ring.invariant.up_to;
      calm = λ n d z a u k.
          c.loop-ring.invariant.calm n d z a (through n d s.num s.den t.num t.den z s.positive t.positive u c.turn_round-turn.ensures.up_to)
          (subst (λ (rest : List (List Corner)). AllCalm (zone_edges rest) (point_at l f.num f.den) (point_at l n d)) (sym split)
          (calm_append (edges ring) (zone_edges (drop (i + 1) rs)) (point_at l f.num f.den) (point_at l n d)
          (all_calm_shrunk l f.num f.den n d s.num s.den f.positive z s.positive a u (edges ring) c.turn_round-turn.ensures.calm) k));
    }

pub returns : goal.returns
returns c =
    let l : CourseView = c.args.course.now in
    let f = c.args.first in
    let rs : List (List Corner) = c.args.rings.now in
    let i = c.loop-ring.ring-index in
    let t = c.loop-ring.turn in
    let none : drop i rs ≡ [] = drop_all i rs c.loop-ring-test.false in
    record {
      after = c.loop-ring.invariant.after;
      up_to = c.loop-ring.invariant.up_to;
      calm = c.loop-ring.invariant.calm t.num t.den t.positive c.loop-ring.invariant.after (omega (arith, ints))
          (subst (λ (rest : List (List Corner)). AllCalm (zone_edges rest) (point_at l f.num f.den) (point_at l t.num t.den)) (sym none) tt);
    }

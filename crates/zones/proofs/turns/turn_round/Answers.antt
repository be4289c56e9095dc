use Rattle.std.proofs.Common.{◌-◌, ◌<◌, suc, length, drop, List, [], ◌≡◌, arith, ap, sym, subst, ◌∙◌, nat_eq, true, false}
use Rattle.std.proofs.lemmas.Bool.Decides.{nat_tests}
use Rattle.std.proofs.lemmas.Int.{ints}
use Rattle.std.proofs.lemmas.List.{drop_all, nil_from_length}
use Rattle.zones.specs.Places.{Corner, Edge, CourseView, point_at}
use Rattle.zones.specs.Zones.{edges, edges_after}
use Rattle.zones.specs.Turns.{AllCalm}
use Rattle.zones.proofs.ZoneLemmas.{cut, edges_from_last}
use Rattle.zones.proofs.Shrinking.{through, calm_shrunk}
use Rattle.zones.proofs.turns.turn_round.Goals as goal

pub returns-then-is_empty : goal.returns-then-is_empty
returns-then-is_empty c =
    let l : CourseView = c.args.course.now in
    let f = c.args.first in
    let last = c.args.last in
    let cs : List Corner = c.corners-corners.result.now in
    let empty : nat_eq (length cs) 0 ≡ true = sym c.is_empty.ensures ∙ c.if-is_empty.true in
    let none : length cs ≡ 0 = grind (arith, nat_tests) in
    let nil : [] ≡ c.args.ring.now = sym (nil_from_length cs none) ∙ c.corners-corners.ensures in
    record {
      after = c.requires.order;
      up_to = omega (arith, ints);
      calm = subst (λ (ring : List Corner). AllCalm (edges ring) (point_at l f.num f.den) (point_at l last.num last.den)) nil tt;
    }

pub loop-to-init : goal.loop-to-init
loop-to-init c =
    let l : CourseView = c.args.course.now in
    let f = c.args.first in
    let cs : List Corner = c.corners-corners.result.now in
    let none : nat_eq (length cs) 0 ≡ false = sym c.is_empty.ensures ∙ c.if-is_empty.false in
    let some : 0 < length cs = grind (arith, nat_tests) in
    let h : suc (length cs - 1) ≡ length cs = omega arith in
    let x : Corner = c.index-corners-corners.result in
    let all : edges_after x cs ≡ edges c.args.ring.now = ap (λ (from : Corner). edges_after from cs) c.index-corners-corners.is ∙ edges_from_last x cs (length cs - 1) h ∙ ap edges c.corners-corners.ensures in
    record {
      after = c.requires.order;
      up_to = omega (arith, ints);
      calm = λ n d z a u k. subst (λ (es : List Edge). AllCalm es (point_at l f.num f.den) (point_at l n d)) all k;
    }

pub loop-to-preserved : goal.loop-to-preserved
loop-to-preserved c =
    let l : CourseView = c.args.course.now in
    let f = c.args.first in
    let last = c.args.last in
    let cs : List Corner = c.corners-corners.result.now in
    let i = c.loop-to.to-index in
    let from : Corner = c.loop-to.from in
    let to : Corner = c.to-item.result in
    let t = c.loop-to.turn in
    let s = c.turn_of_edge-turn.result in
    let split = cut cs i to c.loop-to-test.true c.to-item.is in
    record {
      after = c.turn_of_edge-turn.ensures.after;
      up_to = through s.num s.den t.num t.den last.num last.den s.positive t.positive last.positive c.turn_of_edge-turn.ensures.up_to c.loop-to.invariant.up_to;
      calm = λ n d z a u k.
          c.loop-to.invariant.calm n d z a (through n d s.num s.den t.num t.den z s.positive t.positive u c.turn_of_edge-turn.ensures.up_to)
          (subst (λ (rest : List Corner). AllCalm (edges_after from rest) (point_at l f.num f.den) (point_at l n d)) (sym split)
          (calm_shrunk l f.num f.den n d s.num s.den f.positive z s.positive a u (record { from = from; to = to }) c.turn_of_edge-turn.ensures.calm, k));
    }

pub returns : goal.returns
returns c =
    let l : CourseView = c.args.course.now in
    let f = c.args.first in
    let cs : List Corner = c.corners-corners.result.now in
    let i = c.loop-to.to-index in
    let t = c.loop-to.turn in
    let none : drop i cs ≡ [] = drop_all i cs c.loop-to-test.false in
    record {
      after = c.loop-to.invariant.after;
      up_to = c.loop-to.invariant.up_to;
      calm = c.loop-to.invariant.calm t.num t.den t.positive c.loop-to.invariant.after (omega (arith, ints))
          (subst (λ (rest : List Corner). AllCalm (edges_after c.loop-to.from rest) (point_at l f.num f.den) (point_at l t.num t.den)) (sym none) tt);
    }

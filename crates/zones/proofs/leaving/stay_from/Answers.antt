use Rattle.std.proofs.Common.{true, false, ◌≡◌, ◌+ℤ◌, ◌*ℤ◌, ◌≤ℤ◌, List, arith, sym, ◌∙◌, inl, inr}
use Rattle.std.proofs.lemmas.Int.{ints, by_lt_z}
use Rattle.zones.specs.Places.{Corner, CourseView, point_at}
use Rattle.zones.specs.Zones.{in_zone}
use Rattle.zones.proofs.CompareLemmas.{not_told}
use Rattle.zones.proofs.Falling.{left_falls}
use Rattle.zones.proofs.Shrinking.{through}
use Rattle.zones.proofs.PieceLemmas.{same_place, piece_inside, piece_outside}
use Rattle.zones.proofs.leaving.stay_from.Goals as goal

pub pieces-init : goal.pieces-init
pieces-init c =
    let l : CourseView = c.args.course.now in
    let f = c.args.first in
    record {
      from = omega (arith, ints);
      up_to = c.requires.order;
      inside = λ n d z low high. let e : n *ℤ f.den ≡ f.num *ℤ d = omega (arith, ints) in same_place l n d f.num f.den z f.positive e c.args.rings.now ∙ c.requires.inside;
    }

pub returns : goal.returns
returns c =
    let a = c.pieces.at in
    let last = c.args.last in
    record {
      from = c.pieces.invariant.from;
      up_to = c.pieces.invariant.up_to;
      inside = c.pieces.invariant.inside;
      ends = inl (not_told _ (a.num *ℤ last.den) (last.num *ℤ a.den) c.is_before.ensures c.pieces-test.false);
    }

pub next_turn-next-requires : goal.next_turn-next-requires
next_turn-next-requires c = record { order = c.is_before.ensures.0 c.pieces-test.true }

pub returns-then-not-is_inside : goal.returns-then-not-is_inside
returns-then-not-is_inside c =
    let l : CourseView = c.args.course.now in
    let rs : List (List Corner) = c.args.rings.now in
    let a = c.pieces.at in
    let x = c.next_turn-next.result in
    let after = c.next_turn-next.ensures.after in
    let m = c.mediant.ensures in
    let outside : in_zone rs (point_at l (a.num +ℤ x.num) (a.den +ℤ x.den)) ≡ false = (λ i. in_zone rs (point_at l (sym m.num i) (sym m.den i))) ∙ sym c.is_inside.ensures ∙ c.if-not-is_inside.true in
    record {
      from = c.pieces.invariant.from;
      up_to = c.pieces.invariant.up_to;
      inside = c.pieces.invariant.inside;
      ends = inr (record {
        after = after;
        up_to = c.next_turn-next.ensures.up_to;
        outside = λ n d z p q. piece_outside l rs a.num a.den x.num x.den a.positive x.positive after c.next_turn-next.ensures.calm outside n d (record { first = a.positive; here = z; second = x.positive; after = p; before = q });
      });
    }

pub pieces-smaller : goal.pieces-smaller
pieces-smaller c =
    let a = c.pieces.at in
    let x = c.next_turn-next.result in
    let last = c.args.last in
    left_falls a.num a.den x.num x.den last.num last.den a.positive x.positive last.positive a.small.1 x.small.1 c.next_turn-next.ensures.after c.next_turn-next.ensures.up_to c.pieces.invariant.up_to

pub pieces-preserved : goal.pieces-preserved
pieces-preserved c =
    let l : CourseView = c.args.course.now in
    let rs : List (List Corner) = c.args.rings.now in
    let f = c.args.first in
    let a = c.pieces.at in
    let x = c.next_turn-next.result in
    let after = c.next_turn-next.ensures.after in
    let up : (a.num *ℤ x.den) ≤ℤ (x.num *ℤ a.den) = omega (arith, ints, after) in
    let m = c.mediant.ensures in
    let inside : in_zone rs (point_at l (a.num +ℤ x.num) (a.den +ℤ x.den)) ≡ true = (λ i. in_zone rs (point_at l (sym m.num i) (sym m.den i))) ∙ sym c.is_inside.ensures ∙ c.if-not-is_inside.false in
    record {
      from = through f.num f.den a.num a.den x.num x.den f.positive a.positive x.positive c.pieces.invariant.from up;
      up_to = c.next_turn-next.ensures.up_to;
      inside = λ n d z low high.
          by_lt_z (a.num *ℤ d) (n *ℤ a.den)
          (λ p. let q : (a.num *ℤ d) ≤ℤ (n *ℤ a.den) = omega (arith, ints, p) in piece_inside l rs a.num a.den x.num x.den a.positive x.positive after c.next_turn-next.ensures.calm inside n d z q high)
          (λ g. c.pieces.invariant.inside n d z low g);
    }

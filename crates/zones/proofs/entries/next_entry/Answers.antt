use Rattle.std.proofs.Common.{true, false, Bool, ◌≡◌, ◌*ℤ◌, ◌≤ℤ◌, List, arith, sym, ◌∙◌, refl}
use Rattle.std.proofs.lemmas.Int.{ints, by_lt_z}
use Rattle.zones.specs.Places.{Corner, CourseView, point_at}
use Rattle.zones.specs.Zones.{in_zone}
use Rattle.zones.proofs.CompareLemmas.{not_told}
use Rattle.zones.proofs.Falling.{left_falls}
use Rattle.zones.proofs.Shrinking.{through}
use Rattle.zones.proofs.Pieces.{piece_closed_first}
use Rattle.zones.proofs.PieceLemmas.{same_place}
use Rattle.zones.proofs.entries.next_entry.Goals as goal

contra : (b c : Bool) → (b ≡ true → c ≡ true) → c ≡ false → b ≡ false
contra true c f h = sym (f refl) ∙ h
contra false c f h = refl

pub pieces-init : goal.pieces-init
pieces-init c = record {
  from = omega (arith, ints);
  up_to = c.requires.order;
  before = λ n d z low high. absurd (omega (arith, ints));
}

pub returns-then-is_inside : goal.returns-then-is_inside
returns-then-is_inside c =
    let l : CourseView = c.args.course.now in
    let rs : List (List Corner) = c.args.rings.now in
    let t = c.fraction_of.ensures in
    record {
      from = c.pieces.invariant.from;
      up_to = c.pieces.invariant.up_to;
      before = c.pieces.invariant.before;
      inside = (λ i. in_zone rs (point_at l (sym t.num i) (sym t.den i))) ∙ sym c.is_inside.ensures ∙ c.if-is_inside.true;
    }

pub returns-then-is_inside-2 : goal.returns-then-is_inside-2
returns-then-is_inside-2 c =
    let l : CourseView = c.args.course.now in
    let rs : List (List Corner) = c.args.rings.now in
    let t = c.fraction_of-2.ensures in
    record {
      from = c.pieces.invariant.from;
      up_to = c.pieces.invariant.up_to;
      before = c.pieces.invariant.before;
      inside = (λ i. in_zone rs (point_at l (sym t.num i) (sym t.den i))) ∙ sym c.is_inside-2.ensures ∙ c.if-is_inside-2.true;
    }

pub returns : goal.returns
returns c =
    let l : CourseView = c.args.course.now in
    let rs : List (List Corner) = c.args.rings.now in
    let a = c.pieces.at in
    let last = c.args.last in
    let t = c.fraction_of-2.ensures in
    let off : in_zone rs (point_at l a.num a.den) ≡ false = (λ i. in_zone rs (point_at l (sym t.num i) (sym t.den i))) ∙ sym c.is_inside-2.ensures ∙ c.if-is_inside-2.false in
    let past = not_told _ (a.num *ℤ last.den) (last.num *ℤ a.den) c.is_before.ensures c.pieces-test.false in
    record {
      outside = λ n d z low high.
          let up : (n *ℤ a.den) ≤ℤ (a.num *ℤ d) = through n d last.num last.den a.num a.den z last.positive a.positive high past in
          by_lt_z (n *ℤ a.den) (a.num *ℤ d)
          (λ p. c.pieces.invariant.before n d z low p)
          (λ g. let e : n *ℤ a.den ≡ a.num *ℤ d = omega (arith, ints) in same_place l n d a.num a.den z a.positive e rs ∙ off);
    }

pub next_turn-at-requires : goal.next_turn-at-requires
next_turn-at-requires c = record { order = c.is_before.ensures.0 c.pieces-test.true }

pub pieces-smaller : goal.pieces-smaller
pieces-smaller c =
    let a = c.pieces.at in
    let x = c.next_turn-at.result in
    let last = c.args.last in
    left_falls a.num a.den x.num x.den last.num last.den a.positive x.positive last.positive a.small.1 x.small.1 c.next_turn-at.ensures.after c.next_turn-at.ensures.up_to c.pieces.invariant.up_to

pub pieces-preserved : goal.pieces-preserved
pieces-preserved c =
    let l : CourseView = c.args.course.now in
    let rs : List (List Corner) = c.args.rings.now in
    let f = c.args.first in
    let a = c.pieces.at in
    let x = c.next_turn-at.result in
    let after = c.next_turn-at.ensures.after in
    let up : (a.num *ℤ x.den) ≤ℤ (x.num *ℤ a.den) = omega (arith, ints, after) in
    let t = c.fraction_of.ensures in
    let off : in_zone rs (point_at l a.num a.den) ≡ false = (λ i. in_zone rs (point_at l (sym t.num i) (sym t.den i))) ∙ sym c.is_inside.ensures ∙ c.if-is_inside.false in
    record {
      from = through f.num f.den a.num a.den x.num x.den f.positive a.positive x.positive c.pieces.invariant.from up;
      up_to = c.next_turn-at.ensures.up_to;
      before = λ n d z low high.
          by_lt_z (n *ℤ a.den) (a.num *ℤ d)
          (λ p. c.pieces.invariant.before n d z low p)
          (λ g. by_lt_z (a.num *ℤ d) (n *ℤ a.den)
          (λ p. contra (in_zone rs (point_at l n d)) (in_zone rs (point_at l a.num a.den))
          (piece_closed_first l a.num a.den n d x.num x.den (record { first = a.positive; here = z; second = x.positive; after = p; before = high }) rs c.next_turn-at.ensures.calm) off)
          (λ k. let e : n *ℤ a.den ≡ a.num *ℤ d = omega (arith, ints) in same_place l n d a.num a.den z a.positive e rs ∙ off));
    }

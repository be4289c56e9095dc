-- The legs of which a predicate holds lie near.
use Rattle.std.proofs.Common.{ℤ, neg_ℤ, ◌≡◌, ◌≢◌, refl, true, ◌∷◌, [], arith}
use Rattle.std.specs.Prelude.{int_le}
use Rattle.std.specs.Int.{int_max, int_min}
use Rattle.std.proofs.lemmas.Int.{ints, clamps}
use Rattle.fixedpoint.specs.Number.{IsInRange}
use Rattle.timebase.specs.Period.{PeriodView}
use Rattle.legs.specs.Legs.{LegView, IsLeg, is_live}
use Rattle.legs.specs.Boxes.{RectView, box_of, box_over, boxes_meet, intervals_meet}
use Rattle.clipping.specs.Inside.{InRect}
use Rattle.predicates.specs.Predicates.{Holds}
use Rattle.predicates.specs.Near.{box_near, plane_over, greatest_coordinate}
use Rattle.predicates.specs.declared.Predicate.{Predicate}
use Rattle.predicates.specs.declared.Predicate.TheVariants.{Ever, Always, Enters, Leaves, Crosses, Bypasses}
use Rattle.predicates.proofs.LegLemmas.{and_true, le_to, ordered}
use Rattle.predicates.proofs.PredicateLemmas.{holds_live, holds_meets}

-- two coordinates lie in the plane
in_plane : (a b : ℤ) → IsInRange a → IsInRange b → intervals_meet (int_min a b) (int_max a b) (neg_ℤ greatest_coordinate) greatest_coordinate ≡ true
in_plane a b p q =
    and_true (int_le (int_min a b) greatest_coordinate) (int_le (neg_ℤ greatest_coordinate) (int_max a b))
    (le_to (int_min a b) greatest_coordinate (omega (arith, ints, clamps, p, q))) (le_to (neg_ℤ greatest_coordinate) (int_max a b) (omega (arith, ints, clamps, p, q)))

plane_meets : (leg : LegView) (period : PeriodView) → IsLeg leg → is_live period leg ≡ true → boxes_meet (box_of leg) (plane_over period) ≡ true
plane_meets leg period lawful live =
    let o = ordered leg period live in
    and_true _ _
    (and_true _ _ (in_plane leg.x0 leg.x1 lawful.x0 lawful.x1) (in_plane leg.y0 leg.y1 lawful.y0 lawful.y1))
    (and_true _ _ (le_to leg.t0 period.end (omega (arith, ints, clamps, o))) (le_to period.start leg.t1 (omega (arith, ints, clamps, o))))

pub meets_near : (predicate : Predicate) (leg : LegView) (rect : RectView) (period : PeriodView) → IsLeg leg → Holds predicate (leg ∷ []) rect period → boxes_meet (box_of leg) (box_near predicate rect period) ≡ true
meets_near Ever leg rect period lawful h = holds_meets Ever leg rect period lawful (λ e. cc) h
meets_near Always leg rect period lawful h = holds_meets Always leg rect period lawful (λ e. cc) h
meets_near Enters leg rect period lawful h = holds_meets Enters leg rect period lawful (λ e. cc) h
meets_near Leaves leg rect period lawful h = holds_meets Leaves leg rect period lawful (λ e. cc) h
meets_near Crosses leg rect period lawful h = holds_meets Crosses leg rect period lawful (λ e. cc) h
meets_near Bypasses leg rect period lawful h = plane_meets leg period lawful (holds_live Bypasses leg (InRect rect) period h)

-- but for `bypasses`, near is over the rectangle
pub near_is : (predicate : Predicate) (rect : RectView) (period : PeriodView) → predicate ≢ Bypasses → box_near predicate rect period ≡ box_over rect period
near_is Ever rect period other = refl
near_is Always rect period other = refl
near_is Enters rect period other = refl
near_is Leaves rect period other = refl
near_is Crosses rect period other = refl
near_is Bypasses rect period other = absurd (other refl)

use Rattle.std.proofs.Common.{◌⊎◌, inl, inr, List, ◌*ℤ◌, ◌<ℤ◌, ◌≤ℤ◌, arith, sym, subst}
use Rattle.std.proofs.lemmas.Int.{ints}
use Rattle.zones.specs.declared.cuts.CoursePlace.{CoursePlace}
use Rattle.zones.specs.declared.cuts.Cut.{Cut}
use Rattle.zones.specs.Places.{Corner, CourseView}
use Rattle.zones.specs.Stays.{IsOutAfter}
use Rattle.zones.specs.Cuts.{IsStays}
use Rattle.zones.proofs.CompareLemmas.{not_told}
use Rattle.zones.proofs.Falling.{left_falls}
use Rattle.zones.proofs.Shrinking.{through}
use Rattle.zones.proofs.CutLemmas.{IsSoFar, le_less, none_between, so_far_none, so_far_more, so_far_last, so_far_never}
use Rattle.zones.proofs.staying.stays.Goals as goal

-- a stay that ends before the last place: the course is outside after it
out : (rings : List (List Corner)) (course : CourseView) (end next last : CoursePlace)
    → ((last.num *ℤ end.den) ≤ℤ (end.num *ℤ last.den)) ⊎ IsOutAfter rings course end next last
    → (end.num *ℤ last.den) <ℤ (last.num *ℤ end.den) → IsOutAfter rings course end next last
out rings course end next last (inl h) l = absurd (omega (arith, ints, h, l))
out rings course end next last (inr h) l = h

pub returns-then-is_before : goal.returns-then-is_before
returns-then-is_before c =
    let x = c.args in
    subst (λ (cuts : List Cut). IsStays x.rings.now x.course.now x.first x.last cuts) (sym c.new-cuts.ensures.items)
    (none_between x.rings.now x.course.now x.first x.last (c.is_before.ensures.0 c.if-is_before.true))

pub stays-init : goal.stays-init
stays-init c =
    let x = c.args in
    subst (λ (cuts : List Cut). IsSoFar x.rings.now x.course.now x.first x.last x.first cuts) (sym c.new-cuts.ensures.items)
    (so_far_none x.rings.now x.course.now x.first x.last (not_told _ (x.last.num *ℤ x.first.den) (x.first.num *ℤ x.last.den) c.is_before.ensures c.if-is_before.false))

pub returns-in-Never : goal.returns-in-Never
returns-in-Never c =
    let x = c.args in
    so_far_never x.rings.now x.course.now x.first x.last c.stays.from c.stays.cuts.items c.stays.invariant c.in-Never.ensures

pub returns-then-not-is_before : goal.returns-then-not-is_before
returns-then-not-is_before c =
    let x = c.args in
    let stay = c.stay_from-stay.result in
    subst (λ (cuts : List Cut). IsStays x.rings.now x.course.now x.first x.last cuts) (sym c.in_ok-push-in-At.ensures.items)
    (so_far_last x.rings.now x.course.now x.first x.last c.stays.from stay.next c.stays.cuts.items _ c.stays.invariant c.in-At.ensures c.stay_from-stay.ensures
    (not_told _ (stay.end.num *ℤ x.last.den) (x.last.num *ℤ stay.end.den) c.is_before-in-At.ensures c.if-not-is_before.true))

pub stays-smaller : goal.stays-smaller
stays-smaller c =
    let x = c.args in
    let from : CoursePlace = c.stays.from in
    let stay = c.stay_from-stay.result in
    let entry : CoursePlace = c.in-At.entry in
    let o = out x.rings.now x.course.now stay.end stay.next x.last c.stay_from-stay.ensures.ends (c.is_before-in-At.ensures.0 c.if-not-is_before.false) in
    let up : (from.num *ℤ stay.end.den) ≤ℤ (stay.end.num *ℤ from.den) =
    through from.num from.den entry.num entry.den stay.end.num stay.end.den from.positive entry.positive stay.end.positive c.in-At.ensures.from c.stay_from-stay.ensures.from in
    left_falls from.num from.den stay.next.num stay.next.den x.last.num x.last.den from.positive stay.next.positive x.last.positive from.small.1 stay.next.small.1
    (le_less from.num from.den stay.end.num stay.end.den stay.next.num stay.next.den from.positive stay.end.positive stay.next.positive up o.after) o.up_to c.stays.invariant.order

pub stays-preserved : goal.stays-preserved
stays-preserved c =
    let x = c.args in
    let stay = c.stay_from-stay.result in
    subst (λ (cuts : List Cut). IsSoFar x.rings.now x.course.now x.first x.last stay.next cuts) (sym c.in_ok-push-in-At.ensures.items)
    (so_far_more x.rings.now x.course.now x.first x.last c.stays.from stay.next c.stays.cuts.items _ c.stays.invariant c.in-At.ensures c.stay_from-stay.ensures
    (out x.rings.now x.course.now stay.end stay.next x.last c.stay_from-stay.ensures.ends (c.is_before-in-At.ensures.0 c.if-not-is_before.false)))

use Rattle.std.proofs.Common.{arith, ◌≡◌, ◌∙◌, ◌&&◌, ℤ, refl, sym, subst, ◌↔◌, IsTrue}
use Rattle.std.specs.Int.{int_max, int_min}
use Rattle.std.proofs.lemmas.Int.{ints, clamps}
use Rattle.clipping.specs.Inside.{InRect, IsInside, live_ends}
use Rattle.predicates.proofs.LegLemmas.{ordered}
use Rattle.predicates.proofs.CourseLemmas.{and_then, and_stop, inside_at_end, leg_course, live_from, rect_throughout}
use Rattle.predicates.proofs.courses.Course.between.Goals as goal
use Rattle.predicates.proofs.courses.Course.between.Goals.{then-first, else-first, then-first-2, else-first-2}

pub inside_at-first-requires : goal.inside_at-first-requires
inside_at-first-requires c =
    let e = live_from c.args.leg.now c.args.period.now (live_ends c.args.leg.now c.args.period.now) c.args.ends c.requires refl in
    let o = ordered c.args.leg.now c.args.period.now e.0 in
    let s : c.args.ends.0 ≡ int_max c.args.leg.now.t0 c.args.period.now.start = e.1 in
    record { started = omega (arith, ints, clamps, s); lasts = omega (arith, ints, clamps, s, o) }

pub inside_at-last-requires : goal.inside_at-last-requires
inside_at-last-requires c =
    let e = live_from c.args.leg.now c.args.period.now (live_ends c.args.leg.now c.args.period.now) c.args.ends c.requires refl in
    let o = ordered c.args.leg.now c.args.period.now e.0 in
    let s : c.args.ends.1 ≡ int_min c.args.leg.now.t1 c.args.period.now.end = e.2 in
    record { started = omega (arith, ints, clamps, s, o); lasts = omega (arith, ints, clamps, s) }

pub is_ever_inside-requires : goal.is_ever_inside-requires
is_ever_inside-requires c known =
    let some = inside_at_end c.args.leg.now (InRect c.args.rect.now) c.args.period.now c.args.ends c.requires in
    elim c.if-first-2.branch [
      | then-first-2 w ↦ some.0 (c.inside_at-first.ensures.0 w.if-first-2.true)
      | else-first-2 w ↦ some.1 (c.inside_at-last.ensures.0 (sym w.is_ever_inside-is ∙ known))
    ]

pub returns : goal.returns
returns c =
    let l = c.args.leg.now in
    let r = c.args.rect.now in
    let p = c.args.period.now in
    let e = live_from l p (live_ends l p) c.args.ends c.requires refl in
    let always : c.if-first.result ≡ (c.inside_at-first.result && c.inside_at-last.result) =
    elim c.if-first.branch [
      | then-first w ↦ w.result-is ∙ and_then c.inside_at-first.result c.inside_at-last.result w.if-first.true
      | else-first w ↦ w.result-is ∙ and_stop c.inside_at-first.result c.inside_at-last.result w.if-first.false
    ] in
    let at_first = subst (λ (t : ℤ). IsTrue c.inside_at-first.result ↔ IsInside l r t 1) e.1 c.inside_at-first.ensures in
    let at_last = subst (λ (t : ℤ). IsTrue c.inside_at-last.result ↔ IsInside l r t 1) e.2 c.inside_at-last.ensures in
    leg_course l (InRect r) p c.inside_at-first.result c.inside_at-last.result c.is_ever_inside.result c.if-first.result e.0 at_first at_last c.is_ever_inside.ensures
    (rect_throughout l r p c.inside_at-first.result c.inside_at-last.result c.if-first.result e.0 at_first at_last always)

use Rattle.std.proofs.Common.{arith, ◌∙◌, ◌<ℤ◌, ap, sym, subst}
use Rattle.std.proofs.lemmas.Int.{ints}
use Rattle.timebase.specs.Instant.{IsMoment}
use Rattle.legs.specs.Legs.{LegView}
use Rattle.moments.specs.Fractions.{IsInTime, IsSame}
use Rattle.moments.proofs.CodeLemmas.{den_is, raw_is}
use Rattle.moments.proofs.StayLemmas.{at_from, in_time_from}
use Rattle.moments.proofs.stay.moment_at.Goals as goal

pub overflow_add-product : goal.overflow_add-product
overflow_add-product c = let a = c.product.ensures.small in let b = c.product-2.ensures.small in omega (arith, ints, a, b)

pub new-requires-clause-positive : goal.new-requires-clause-positive
new-requires-clause-positive c = let e = den_is c.args.part c.unsigned_abs.result c.unsigned_abs.ensures.value in let h = c.args.part.positive in omega (arith, ints, e, h)

pub new-requires-clause-in_time : goal.new-requires-clause-in_time
new-requires-clause-in_time c =
    let l = c.leg.inside in
    let part = c.args.part in
    let raw = raw_is part l.t0 l.t1 _ _ c.product.result c.product-2.result c.millis-t0.ensures.value c.millis-t1.ensures.value c.leg.invariant.t0 c.leg.invariant.t1
    c.product.ensures.value c.product-2.ensures.value c.product.ensures.small c.product-2.ensures.small in
    let within = in_time_from l.t0 l.t1 part c.unsigned_abs.result c.leg.invariant.rises c.leg.invariant.t0 c.leg.invariant.t1 c.requires (den_is part c.unsigned_abs.result c.unsigned_abs.ensures.value) in
    subst (λ n. IsInTime n c.unsigned_abs.result) (sym raw) within

pub returns-clause-rises : goal.returns-clause-rises
returns-clause-rises c = subst (λ (l : LegView). l.t0 <ℤ l.t1) c.leg.view_is c.leg.invariant.rises

pub returns-clause-at : goal.returns-clause-at
returns-clause-at c =
    let l = c.leg.inside in
    let part = c.args.part in
    let v = c.leg.view_is in
    let leg = c.args.leg.now in
    let t0 = ap (λ (x : LegView). x.t0) v in
    let t1 = ap (λ (x : LegView). x.t1) v in
    let raw = raw_is part leg.t0 leg.t1 _ _ c.product.result c.product-2.result (c.millis-t0.ensures.value ∙ t0) (c.millis-t1.ensures.value ∙ t1)
    (subst IsMoment t0 c.leg.invariant.t0) (subst IsMoment t1 c.leg.invariant.t1)
    c.product.ensures.value c.product-2.ensures.value c.product.ensures.small c.product-2.ensures.small in
    at_from leg part c.new.result.num c.new.result.den c.unsigned_abs.result (den_is part c.unsigned_abs.result c.unsigned_abs.ensures.value)
    (subst (λ n. IsSame c.new.result.num c.new.result.den n c.unsigned_abs.result) raw c.new.ensures)

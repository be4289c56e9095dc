use Rattle.std.proofs.Common.{◌<ℤ◌, arith, ap, subst}
use Rattle.std.proofs.lemmas.Int.{ints}
use Rattle.legs.specs.Legs.{LegView}
use Rattle.zoning.proofs.asked.place_at.Goals as goal

pub returns-clause-num : goal.returns-clause-num
returns-clause-num c =
    let t0 = ap (λ (x : LegView). x.t0) c.leg.view_is in
    let v = c.millis-t0.ensures.value in
    let a = c.millis-t0.ensures.moment.0 in
    let b = c.millis-t0.ensures.moment.1 in
    let w = c.millis.ensures.value in
    let d = c.millis.ensures.moment.0 in
    let e = c.millis.ensures.moment.1 in
    omega (arith, ints, t0, v, a, b, w, d, e)

pub returns-clause-den : goal.returns-clause-den
returns-clause-den c =
    let t0 = ap (λ (x : LegView). x.t0) c.leg.view_is in
    let t1 = ap (λ (x : LegView). x.t1) c.leg.view_is in
    let v = c.millis-t0.ensures.value in
    let a = c.millis-t0.ensures.moment.0 in
    let b = c.millis-t0.ensures.moment.1 in
    let w = c.millis-t1.ensures.value in
    let d = c.millis-t1.ensures.moment.0 in
    let e = c.millis-t1.ensures.moment.1 in
    omega (arith, ints, t0, t1, v, a, b, w, d, e)

pub returns-clause-rises : goal.returns-clause-rises
returns-clause-rises c = subst (λ (l : LegView). l.t0 <ℤ l.t1) c.leg.view_is c.leg.invariant.rises

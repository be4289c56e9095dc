use Rattle.std.proofs.Common.{◌∙◌, ◌*◌, ℤ, pos, ◌+ℤ◌, ◌*ℤ◌, arith, ap, unsigned_abs}
use Rattle.std.proofs.lemmas.Int.{ints}
use Rattle.legs.specs.Legs.{LegView}
use Rattle.clipping.specs.Inside.{duration}
use Rattle.zoning.proofs.Terms.{at_of, proper}
use Rattle.zoning.proofs.part.moment_at.Goals as goal

pub later-requires : goal.later-requires
later-requires c =
    let v = c.leg.view_is in
    let t0 = ap (λ (x : LegView). x.t0) v in
    let t1 = ap (λ (x : LegView). x.t1) v in
    let a = c.leg.invariant.t0.0 in
    let b = c.leg.invariant.t1.1 in
    let w = c.share_at-share.ensures.whole in
    let u = c.duration_of.ensures in
    (omega (arith, ints, a, w, u, t0, t1), omega (arith, ints, b, w, u, t0, t1))

pub invariant_of-result-clause-proper : goal.invariant_of-result-clause-proper
invariant_of-result-clause-proper c =
    let share = c.share_at-share.result in
    let terms = c.terms_of-terms.result in
    proper share.rest (unsigned_abs c.args.part.den) terms.num terms.den c.terms_of-terms.ensures.positive c.share_at-share.ensures.rest
    (c.terms_of-terms.ensures.same ∙ ap (λ k. terms.num * k) c.den_of.ensures)

pub returns : goal.returns
returns c =
    let share = c.share_at-share.result in
    let terms = c.terms_of-terms.result in
    let part = c.args.part in
    let leg = c.args.leg.now in
    let t0 = ap (λ (x : LegView). x.t0) c.leg.view_is in
    let whole = c.later.ensures ∙ ap (λ (z : ℤ). z +ℤ pos share.whole) t0 in
    record {
      at = ap (λ (z : ℤ). (z *ℤ pos terms.den +ℤ pos terms.num) *ℤ part.den) whole
          ∙ at_of leg.t0 (duration leg) part.num part.den c.duration_of.result share.whole share.rest terms.num terms.den c.duration_of.ensures c.requires.from_zero part.positive c.share_at-share.ensures.product
          (c.terms_of-terms.ensures.same ∙ ap (λ k. terms.num * k) c.den_of.ensures);
    }

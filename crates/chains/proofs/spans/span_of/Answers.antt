use Rattle.std.proofs.Common.{ap, arith, refl, ◌∙◌, ◌≤ℤ◌}
use Rattle.std.specs.Int.{int_max, int_min}
use Rattle.legs.specs.Legs.{LegView}
use Rattle.std.proofs.lemmas.Int.{ints}
use Rattle.chains.proofs.SpanLemmas.{greatest_of, has_any, has_more, least_of, within_more, within_all}
use Rattle.chains.proofs.spans.span_of.Goals as goal

pub legs-preserved : goal.legs-preserved
legs-preserved c =
    let inv = c.legs.invariant in
    let leg = c.leg-leg.result in
    let v = c.leg.view_is in
    let rises : leg.t0 ≤ℤ leg.t1 = search (arith, ints) in
    record {
      some = omega arith;
      within = omega (arith, c.legs-test.true, c.len-in-legs.ensures.value);
      each = within_more c.args.leaf.now.legs c.legs.i leg c.legs.start c.legs.end c.earlier-start.result c.later-end.result c.leg-leg.ensures.value (c.earlier-start.ensures ∙ ap (λ (l : LegView). int_min c.legs.start l.t0) v) (c.later-end.ensures ∙ ap (λ (l : LegView). int_max c.legs.end l.t1) v) rises inv.each;
      starts = has_more (λ (l : LegView). l.t0) c.args.leaf.now.legs c.legs.i leg c.legs.start c.earlier-start.result c.leg-leg.ensures.value (least_of c.legs.start leg.t0 c.earlier-start.result (c.earlier-start.ensures ∙ ap (λ (l : LegView). int_min c.legs.start l.t0) v)) inv.starts;
      ends = has_more (λ (l : LegView). l.t1) c.args.leaf.now.legs c.legs.i leg c.legs.end c.later-end.result c.leg-leg.ensures.value (greatest_of c.legs.end leg.t1 c.later-end.result (c.later-end.ensures ∙ ap (λ (l : LegView). int_max c.legs.end l.t1) v)) inv.ends;
    }

pub returns : goal.returns
returns c =
    let inv = c.legs.invariant in
    record {
      page_is = refl;
      feature_is = c.head.ensures.feature;
      some = omega (arith, inv.some, inv.within);
      each = within_all c.args.leaf.now.legs c.legs.i c.legs.start c.legs.end (omega (arith, c.legs-test.false, c.len-in-legs.ensures.value)) inv.each;
      starts = has_any (λ (l : LegView). l.t0) c.args.leaf.now.legs c.legs.i c.legs.start inv.starts;
      ends = has_any (λ (l : LegView). l.t1) c.args.leaf.now.legs c.legs.i c.legs.end inv.ends;
    }

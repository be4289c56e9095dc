use Rattle.std.proofs.Common.{◌-◌, ◌<◌, ◌^◌, ◌∙◌, ap, arith, length, refl, sym}
use Rattle.std.proofs.lemmas.Int.{clamps}
use Rattle.register.proofs.ReaderLemmas.{some_none}
use Rattle.register.proofs.SummaryLemmas.{all_said, legs_few}
use Rattle.register.proofs.summary.summary_of.Goals as goal

pub returns-then-legs : goal.returns-then-legs
returns-then-legs c = record {
  some = tt;
  none = λ none count contents k places of e.
      let few = legs_few count c.args.fields.now k places c.in-Some.before contents of (sym c.in-Some.is ∙ e) in
      let sum = c.leg_sum-legs.ensures in
      let limit = c.legs.ensures.value in
      omega (arith, clamps, few, sum, limit, c.if-legs.true);
}

pub returns : goal.returns
returns c = record {
  some = λ count contents k places of e.
      let h = c.in_ok-head.ensures.some in
      let least = c.legs.ensures.limits.few_legs in
      let most : c.args.fields.now.limits.legs < 2 ^ 64 - 1 = omega (arith, least) in
      all_said count c.args.fields.now k places c.in-Some.before contents of (sym c.in-Some.is ∙ e) _ c.in_ok-head.head refl h.0 h.1 refl (ap length (c.as_slice.ensures.value ∙ c.features.view_is)) c.leg_sum-legs.ensures most;
  none = λ e. absurd (some_none _ e);
}

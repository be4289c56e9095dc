use Rattle.std.proofs.Common.{ap, arith, refl}
use Rattle.std.proofs.lemmas.Int.{clamps}
use Rattle.register.specs.Text.{leg_sum}
use Rattle.register.proofs.EntryLemmas.{lists_pair, AreFewRows}
use Rattle.register.proofs.SequenceLemmas.{both_read, first_refused, second_refused, first_unfit, goes_with}
use Rattle.register.proofs.chain_reader.ChainReader.lists.Goals as goal

pub returns-in_err-features : goal.returns-in_err-features
returns-in_err-features g c = first_refused (lists_pair c.args.columns c.args.limits.now.legs) c.from_residual.ensures.1 c.in_err-features.ensures

pub returns-in_err-rows : goal.returns-in_err-rows
returns-in_err-rows g c = second_refused (lists_pair c.args.columns c.args.limits.now.legs) c.from_residual-in_err-rows.ensures.1 c.in_ok-features.ensures (goes_with (AreFewRows c.args.columns) c.leg_sum-legs.ensures c.in_err-rows.ensures)

pub returns : goal.returns
returns g c = both_read (lists_pair c.args.columns c.args.limits.now.legs) (λ h k.
    let sum = c.leg_sum-legs.ensures in
    let limit = c.legs.ensures.value in
    let least = c.legs.ensures.limits.few_legs in
    let few = k.1 in
    ((record { features = h; rows = k.0 }, record { legs = omega (arith, clamps, sum, limit, least, c.if-legs.false); rows = omega (arith, clamps, sum, few) }), refl))
    c.in_ok-features.ensures (goes_with (AreFewRows c.args.columns) c.leg_sum-legs.ensures c.in_ok-rows.ensures)

pub returns-then-legs : goal.returns-then-legs
returns-then-legs g c = first_unfit (lists_pair c.args.columns c.args.limits.now.legs)
    (λ v k same.
    let sum = c.leg_sum-legs.ensures in
    let limit = c.legs.ensures.value in
    let legs = ap leg_sum same in
    let few = k.1.legs in
    omega (arith, clamps, sum, limit, legs, few, c.if-legs.true))
    c.in_ok-features.ensures

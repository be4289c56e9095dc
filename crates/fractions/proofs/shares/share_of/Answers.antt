use Rattle.std.proofs.Common.{ℕ, ◌+◌, ◌*◌, ◌/◌, ◌%◌, ◌<◌, ◌≤◌, ◌≡◌, arith, unsigned_abs, ◌∙◌, ap, sym, SFits, to_z-of_z}
use mir.Syntax.{w128}
use Rattle.std.proofs.lemmas.Int.{ints}
use Rattle.fractions.proofs.ShareLemmas.{digits, joined, at_most}
use Rattle.fractions.proofs.shares.share_of.Goals as goal

pub overflow_cast-result : goal.overflow_cast-result
overflow_cast-result c =
    let n : ℕ = c.unsigned_abs-num.result in
    let d : ℕ = c.unsigned_abs-den.result in
    let w : ℕ = c.args.units in
    let f : SFits w128 c.args.at.num = omega (arith, ints, c.requires.part, c.requires.small) in
    let g : SFits w128 c.args.at.den = omega (arith, ints, c.requires.small) in
    let num : n ≡ unsigned_abs c.args.at.num = c.unsigned_abs-num.ensures.value ∙ ap unsigned_abs (to_z-of_z f) in
    let den : d ≡ unsigned_abs c.args.at.den = c.unsigned_abs-den.ensures.value ∙ ap unsigned_abs (to_z-of_z g) in
    let part : n ≤ d = omega (arith, num, den, c.requires.part) in
    let z : 0 < d = omega (arith, c.step-all.ensures.rest) in
    let all = joined n d w (w / 281474976710656) (w / 16777216 % 16777216) (w % 16777216) _ _ _ _ _ _ (digits w) c.step-high.ensures.product c.step-middle.ensures.product c.step-all.ensures.product in
    let most : c.step-all.result.whole ≤ w = at_most n d w c.step-all.result.whole c.step-all.result.rest z part all in
    omega (arith, most)

pub returns-clause-product : goal.returns-clause-product
returns-clause-product c =
    let n : ℕ = c.unsigned_abs-num.result in
    let d : ℕ = c.unsigned_abs-den.result in
    let w : ℕ = c.args.units in
    let f : SFits w128 c.args.at.num = omega (arith, ints, c.requires.part, c.requires.small) in
    let g : SFits w128 c.args.at.den = omega (arith, ints, c.requires.small) in
    let num : n ≡ unsigned_abs c.args.at.num = c.unsigned_abs-num.ensures.value ∙ ap unsigned_abs (to_z-of_z f) in
    let den : d ≡ unsigned_abs c.args.at.den = c.unsigned_abs-den.ensures.value ∙ ap unsigned_abs (to_z-of_z g) in
    let all = joined n d w (w / 281474976710656) (w / 16777216 % 16777216) (w % 16777216) _ _ _ _ _ _ (digits w) c.step-high.ensures.product c.step-middle.ensures.product c.step-all.ensures.product in
    (λ i. sym num i * w) ∙ all ∙ (λ i. c.step-all.result.whole * den i + c.step-all.result.rest)

pub returns-clause-whole : goal.returns-clause-whole
returns-clause-whole c =
    let n : ℕ = c.unsigned_abs-num.result in
    let d : ℕ = c.unsigned_abs-den.result in
    let w : ℕ = c.args.units in
    let f : SFits w128 c.args.at.num = omega (arith, ints, c.requires.part, c.requires.small) in
    let g : SFits w128 c.args.at.den = omega (arith, ints, c.requires.small) in
    let num : n ≡ unsigned_abs c.args.at.num = c.unsigned_abs-num.ensures.value ∙ ap unsigned_abs (to_z-of_z f) in
    let den : d ≡ unsigned_abs c.args.at.den = c.unsigned_abs-den.ensures.value ∙ ap unsigned_abs (to_z-of_z g) in
    let part : n ≤ d = omega (arith, num, den, c.requires.part) in
    let z : 0 < d = omega (arith, c.step-all.ensures.rest) in
    let all = joined n d w (w / 281474976710656) (w / 16777216 % 16777216) (w % 16777216) _ _ _ _ _ _ (digits w) c.step-high.ensures.product c.step-middle.ensures.product c.step-all.ensures.product in
    at_most n d w c.step-all.result.whole c.step-all.result.rest z part all

use Rattle.std.proofs.Common.{◌∙◌, pos, ◌+ℤ◌, ◌*ℤ◌, SFits, to_z-of_z}
use Rattle.std.specs.Ordering.{int_cmp}
use mir.Syntax.{w128}
use Rattle.zones.proofs.cuts.sign_on.Goals as goal

pub returns : goal.returns
returns c =
    let x = c.args in
    let f : SFits w128 x.c0 = c.ranges.c0 in
    let g : SFits w128 x.c1 = c.ranges.c1 in
    c.sign_at.ensures
    ∙ (λ i. int_cmp (to_z-of_z f i *ℤ c.fraction_of.ensures.den i +ℤ to_z-of_z g i *ℤ c.fraction_of.ensures.num i) (pos 0))

use Rattle.std.proofs.Common.{◌∙◌, ◌*ℤ◌, to_z-of_z}
use Rattle.fractions.proofs.fraction.narrow_product.Goals as goal

pub returns : goal.returns
returns c =
    to_z-of_z c.product.ensures.range ∙ c.product.ensures.value
    ∙ (λ i.
    (to_z-of_z c.in_ok-x.ensures.range ∙ c.in_ok-x.ensures.value ∙ to_z-of_z c.ranges.a) i
    *ℤ (to_z-of_z c.in_ok-y.ensures.range ∙ c.in_ok-y.ensures.value ∙ to_z-of_z c.ranges.b) i)

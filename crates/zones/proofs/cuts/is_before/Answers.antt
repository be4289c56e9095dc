use Rattle.std.proofs.Common.{◌*ℤ◌, ◌∙◌}
use Rattle.std.specs.Ordering.{int_cmp, is_lt}
use Rattle.zones.proofs.CompareLemmas.{told}
use Rattle.zones.proofs.cuts.is_before.Goals as goal

pub returns : goal.returns
returns c =
    let x = c.args in
    let a = c.fraction_of.result in
    let b = c.fraction_of-2.result in
    told _ (x.one.num *ℤ x.other.den) (x.other.num *ℤ x.one.den)
    (c.is_lt.ensures ∙ (λ i. is_lt (c.compare.ensures i))
    ∙ (λ i. is_lt (int_cmp (c.fraction_of.ensures.num i *ℤ c.fraction_of-2.ensures.den i) (c.fraction_of-2.ensures.num i *ℤ c.fraction_of.ensures.den i))))

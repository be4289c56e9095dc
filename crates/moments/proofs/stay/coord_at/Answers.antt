use Rattle.std.proofs.Common.{arith, ◌∙◌, ap, sym, subst}
use Rattle.std.proofs.lemmas.Int.{ints}
use Rattle.std.proofs.lemmas.Option.{same_Some}
use Rattle.fixedpoint.specs.Number.{units_within}
use Rattle.moments.specs.Parts.{IsWhole}
use Rattle.moments.proofs.CodeLemmas.{some_units, units_is, whole_from}
use Rattle.moments.proofs.StayLemmas.{within_from}
use Rattle.moments.proofs.stay.coord_at.Goals as goal

pub overflow_add-product : goal.overflow_add-product
overflow_add-product c = let a = c.product.ensures.small in let b = c.product-2.ensures.small in omega (arith, ints, a, b)

pub overflow_cast-units : goal.overflow_cast-units
overflow_cast-units c =
    let x = c.args in
    let whole = whole_from x.part x.a x.b _ _ _ _ c.floor-units.result c.units-a.ensures.value c.units-b.ensures.value c.units-a.ensures.range c.units-b.ensures.range c.product.ensures.value c.product-2.ensures.value
    c.product.ensures.small c.product-2.ensures.small c.floor-units.ensures.most c.floor-units.ensures.next in
    let within = within_from x.part x.a x.b c.floor-units.result c.requires c.units-a.ensures.range c.units-b.ensures.range whole in
    omega (arith, ints, within)

pub unreachable-requires : goal.unreachable-requires
unreachable-requires c =
    let x = c.args in
    let whole = whole_from x.part x.a x.b _ _ _ _ c.floor-units.result c.units-a.ensures.value c.units-b.ensures.value c.units-a.ensures.range c.units-b.ensures.range c.product.ensures.value c.product-2.ensures.value
    c.product.ensures.small c.product-2.ensures.small c.floor-units.ensures.most c.floor-units.ensures.next in
    let within = within_from x.part x.a x.b c.floor-units.result c.requires c.units-a.ensures.range c.units-b.ensures.range whole in
    let some = c.new.ensures ∙ ap units_within (units_is c.floor-units.result within) ∙ some_units c.floor-units.result within in
    let none = c.in-None.is in
    cc

pub returns : goal.returns
returns c =
    let x = c.args in
    let whole = whole_from x.part x.a x.b _ _ _ _ c.floor-units.result c.units-a.ensures.value c.units-b.ensures.value c.units-a.ensures.range c.units-b.ensures.range c.product.ensures.value c.product-2.ensures.value
    c.product.ensures.small c.product-2.ensures.small c.floor-units.ensures.most c.floor-units.ensures.next in
    let within = within_from x.part x.a x.b c.floor-units.result c.requires c.units-a.ensures.range c.units-b.ensures.range whole in
    let some = c.new.ensures ∙ ap units_within (units_is c.floor-units.result within) ∙ some_units c.floor-units.result within in
    let same = same_Some c.floor-units.result c.in-Some.coord (sym some ∙ c.in-Some.is) in
    subst (λ u. IsWhole x.part x.a x.b u) same whole

use Rattle.std.proofs.Common.{◌∙◌, ap}
use Rattle.fixedpoint.specs.Number.{units_within}
use Rattle.zoning.proofs.Terms.{small_is, some_units}
use Rattle.zoning.proofs.part.coord_at.Goals as goal

pub unreachable-requires : goal.unreachable-requires
unreachable-requires c =
    let some = c.new.ensures ∙ ap units_within (small_is c.units_at.result c.units_at.ensures) ∙ some_units c.units_at.result c.units_at.ensures in
    let none = c.in-None.is in
    cc

use Rattle.std.proofs.Common.{◌∙◌}
use Rattle.header.proofs.FrontLemmas.{bytes_number}
use Rattle.header.proofs.fronts.number.Goals as goal

pub returns-clause-value : goal.returns-clause-value
returns-clause-value c = bytes_number c.args.place c.u32_of.result c.args.bytes.now c.u32_of.type_inv (c.u32_of.ensures ∙ c.part.ensures.value)

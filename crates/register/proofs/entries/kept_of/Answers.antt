use Rattle.std.proofs.Common.{◌∙◌, ap}
use Rattle.std.specs.Int.{w64}
use Rattle.std.proofs.lemmas.Int.{to_z-of_z}
use Rattle.tbnode.specs.Parts.{signed_bytes}
use Rattle.register.proofs.KeptLemmas.{kept_is}
use Rattle.register.proofs.entries.kept_of.Goals as goal

pub returns-clause-text : goal.returns-clause-text
returns-clause-text c = kept_is c.args.bytes.now _ c.requires (ap signed_bytes (to_z-of_z w64 c.i64_of.result c.i64_of.ensures.fits) ∙ c.i64_of.ensures.bytes ∙ c.part-5.ensures.value) (c.u32_of.ensures ∙ c.part.ensures.value) (c.u32_of-2.ensures ∙ c.part-2.ensures.value) (c.u32_of-3.ensures ∙ c.part-3.ensures.value) (c.u64_of.ensures ∙ c.part-4.ensures.value)

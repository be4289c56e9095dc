use Rattle.std.proofs.Common.{refl}
use Rattle.mfcsv.specs.FileText.{file_of_bytes}
use Rattle.parts.proofs.ManyLemmas.{parts_say}
use Rattle.parts.proofs.parts.Goals as goal

pub returns-clause-says : goal.returns-clause-says
returns-clause-says c = parts_say (λ texts. texts.items) (λ text. text.items) c.whole_parts.result c.args.first c.args.count c.args.n c.args.bytes.now (file_of_bytes c.args.bytes.now) refl c.whole_parts.ensures

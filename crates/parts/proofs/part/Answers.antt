use Rattle.std.proofs.Common.{◌∙◌, is_ok, refl, sym}
use Rattle.mfcsv.specs.FileText.{file_of_bytes}
use Rattle.parts.specs.Part.{whole_part}
use Rattle.parts.proofs.ManyLemmas.{if_whole, part_says}
use Rattle.parts.proofs.part.Goals as goal

pub returns-then-branch-clause-text : goal.returns-then-branch-clause-text
returns-then-branch-clause-text c =
    let bytes = c.args.bytes.now in
    if_whole (λ text. text.items) c.whole_part.result (whole_part c.args.k c.args.n bytes) bytes (is_ok (file_of_bytes bytes)) (sym c.in_ok-is_whole.ensures ∙ c.if-branch.true) c.whole_part.ensures

pub returns-then-branch-clause-says : goal.returns-then-branch-clause-says
returns-then-branch-clause-says c =
    part_says (λ text. text.items) c.whole_part.result c.args.k c.args.n c.args.bytes.now (file_of_bytes c.args.bytes.now) refl (sym c.in_ok-is_whole.ensures ∙ c.if-branch.true) c.whole_part.ensures

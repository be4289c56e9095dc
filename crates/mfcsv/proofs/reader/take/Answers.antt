use Rattle.std.proofs.Common.{◌∙◌, inl, inr, sym}
use Rattle.mfcsv.specs.Unread.{cells}
use Rattle.mfcsv.proofs.FaultLemmas.{heads_after-data, other_line, skipped_line}
use Rattle.mfcsv.proofs.reader.take.Goals as goal

pub returns-in_ok-data_of-in-Data : goal.returns-in_ok-data_of-in-Data
returns-in_ok-data_of-in-Data c =
    let row = cells c.args.row.now in
    let kind = sym c.kind_of.ensures ∙ c.in-Data.is in
    let judged = c.in_ok-data_of-in-Data.ensures in
    (judged.0, (sym (heads_after-data c.args.number c.args.heads.now row kind), judged.1))

pub returns-in-Skipped : goal.returns-in-Skipped
returns-in-Skipped c =
    let row = cells c.args.row.now in
    elim c.in-Skipped.is [
      | inl k ↦ skipped_line c.args.number c.args.heads.now row c.requires (sym c.kind_of.ensures ∙ k)
      | inr k ↦ other_line c.args.number c.args.heads.now row c.requires (sym c.kind_of.ensures ∙ k)
    ]

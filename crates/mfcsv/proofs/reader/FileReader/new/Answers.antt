use Rattle.std.proofs.Common.{◌∙◌, ap}
use Rattle.mfcsv.specs.Rows.{rows_of}
use Rattle.mfcsv.specs.Unread.{rows_left}
use Rattle.mfcsv.specs.Views.{HeadsView}
use Rattle.mfcsv.specs.FileText.{no_heads}
use Rattle.mfcsv.specs.Left.{text_left}
use Rattle.mfcsv.proofs.WalkLemmas.{left_whole}
use Rattle.mfcsv.proofs.reader.FileReader.new.Goals as goal

pub returns : goal.returns
returns c =
    ap (λ (heads : HeadsView). text_left 1 heads (rows_left c.read_rows.result)) c.new-2.ensures
    ∙ ap (text_left 1 no_heads) c.read_rows.ensures.rows ∙ left_whole (rows_of c.args.bytes.now)

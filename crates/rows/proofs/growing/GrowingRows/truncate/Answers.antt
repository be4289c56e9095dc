use Rattle.std.proofs.Common.{take, drop, sym, ap, ◌∙◌}
use Rattle.std.proofs.lemmas.List.{take-map}
use Rattle.csv.specs.Records.{fields_of}
use Rattle.rows.specs.Rows.{row_of, grown}
use Rattle.rows.proofs.growing.GrowingRows.truncate.Goals as goal

pub returns : goal.returns
returns c =
    let values = fields_of c.self.inside.values in
    let first = c.self.inside.first in
    ap (λ ps. grown values ps first) c.truncate.ensures
    ∙ ap (λ rs. record { rows = rs; row = drop first values }) (sym (take-map (row_of (take first values)) c.args.len c.self.inside.places))
    ∙ ap (λ g. record { rows = take c.args.len g.rows; row = g.row }) c.self.view_is

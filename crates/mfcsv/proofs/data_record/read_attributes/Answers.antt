use Rattle.std.proofs.Common.{◌≡◌, ◌∙◌, ◌-◌, ◌++◌, List, ℕ, [], ap, arith, length, min, replicate}
use Rattle.mfcsv.specs.Unread.{cells}
use Rattle.mfcsv.proofs.RowLemmas.{attributes_all, length-cells}
use Rattle.mfcsv.proofs.data_record.read_attributes.Goals as goal

pub returns : goal.returns
returns c =
    let columns = length c.args.columns.now in
    let row = c.args.row.now in
    let least : c.min-count.result ≡ min columns (length (cells row) - 4) = omega (arith, c.min-count.ensures, c.saturating_sub.ensures, c.len.ensures, length-cells row) in
    c.with_blanks.ensures ∙ ap (λ (values : List (List ℕ)). values ++ replicate {A = List ℕ} (columns - c.min-count.result) []) c.in_ok-values.ensures
    ∙ attributes_all (cells row) columns c.min-count.result least

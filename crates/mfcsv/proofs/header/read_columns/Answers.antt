use Rattle.std.proofs.Common.{[], ◌∷◌, ◌++◌, ◌∙◌, ◌<◌, ap, arith, length, sym, List}
use Rattle.mfcsv.specs.Rows.{Row}
use Rattle.mfcsv.specs.Unread.{cells}
use Rattle.mfcsv.specs.declared.Column.{Column}
use Rattle.mfcsv.proofs.ColumnLemmas.{all_pairs, columns-more}
use Rattle.mfcsv.proofs.header.read_columns.Goals as goal

pub overflow_add-i : goal.overflow_add-i
overflow_add-i c = omega (arith, c.column_count-i-end.ensures.small)

pub overflow_add-i-in-loop-i : goal.overflow_add-i-in-loop-i
overflow_add-i-in-loop-i c = omega (arith, c.column_count-i-end.ensures.small)

pub loop-i-preserved : goal.loop-i-preserved
loop-i-preserved c =
    let row : Row = cells c.args.row.now in
    let lt : c.loop-i.i < length (all_pairs row) = omega (arith, c.column_count-i-end.ensures.within) in
    let column : Column = record { name = c.in_ok-name.name; kind = c.in_ok-kind.kind } in
    c.in_ok-push.ensures.items ∙ ap (λ (columns : List Column). columns ++ (column ∷ [])) c.loop-i.invariant ∙ rw (c.in_ok-name.ensures, c.in_ok-kind.ensures) (sym (columns-more row c.loop-i.i lt))

use Rattle.std.proofs.Common.{◌∙◌, ◌≡◌, ◌-◌, ap, arith, length, sym}
use Rattle.mfcsv.specs.Unread.{cells}
use Rattle.mfcsv.proofs.ColumnLemmas.{counting-end, counting-more, counting-small, counting-start}
use Rattle.mfcsv.proofs.RowLemmas.{length-cells}
use Rattle.mfcsv.proofs.header.column_count.Goals as goal

pub loop-count-init : goal.loop-count-init
loop-count-init c =
    let size : c.saturating_sub-count.result ≡ length (cells c.args.row.now) - 2 = c.saturating_sub-count.ensures ∙ ap (λ n. n - 2) (c.len.ensures ∙ sym (length-cells c.args.row.now)) in
    rw size (counting-start (cells c.args.row.now))

pub overflow_mul-count : goal.overflow_mul-count
overflow_mul-count c =
    let size = length-cells c.args.row.now in
    omega (arith, c.len.ensures, c.len.type_inv, counting-small (cells c.args.row.now) c.loop-count.count c.loop-count.invariant (omega arith))

pub overflow_add-count : goal.overflow_add-count
overflow_add-count c =
    let size = length-cells c.args.row.now in
    omega (arith, c.len.ensures, c.len.type_inv, counting-small (cells c.args.row.now) c.loop-count.count c.loop-count.invariant (omega arith))

pub is_blank_pair-requires : goal.is_blank_pair-requires
is_blank_pair-requires c =
    let size = length-cells c.args.row.now in
    omega (arith, c.len.ensures, c.len.type_inv, counting-small (cells c.args.row.now) c.loop-count.count c.loop-count.invariant (omega arith))

pub loop-count-preserved : goal.loop-count-preserved
loop-count-preserved c =
    counting-more (cells c.args.row.now) c.loop-count.count c.loop-count.invariant (omega arith) (sym c.is_blank_pair.ensures ∙ c.if-is_blank_pair.true)

pub returns-else-is_blank_pair-clause-columns : goal.returns-else-is_blank_pair-clause-columns
returns-else-is_blank_pair-clause-columns c =
    counting-end (cells c.args.row.now) c.loop-count.count c.loop-count.invariant (omega arith) (sym c.is_blank_pair.ensures ∙ c.if-is_blank_pair.false)

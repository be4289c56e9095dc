use Rattle.std.proofs.Common.{arith, ◌∙◌, ◌+◌, ap, sym}
use Rattle.mfcsv.specs.Unread.{cells, rows_left}
use Rattle.mfcsv.specs.Views.{HeadsView}
use Rattle.mfcsv.specs.Left.{text_left, with_first}
use Rattle.mfcsv.proofs.ReadLemmas.{read_fails, row_fails}
use Rattle.mfcsv.proofs.WalkLemmas.{left_record, left_skip}
use Rattle.mfcsv.proofs.reader.Unread.next.Goals as goal

pub returns-in-Ok-false-clause-reads : goal.returns-in-Ok-false-clause-reads
returns-in-Ok-false-clause-reads c =
    let none = rw c.in-Ok-false.field-0-test at c.in-Ok-false.ensures in
    c.rows.invariant.says ∙ ap (text_left c.rows.self.number c.rows.self.heads) none

pub returns-in-Err-clause-reads : goal.returns-in-Err-clause-reads
returns-in-Err-clause-reads c =
    rw c.fault_at.ensures (read_fails c.rows.self.number c.rows.self.heads (rows_left c.rows.self.reader) c.in-Err.fault _ c.rows.invariant.says c.in-Err.ensures)

pub returns-in-Ok-Some-clause-reads : goal.returns-in-Ok-Some-clause-reads
returns-in-Ok-Some-clause-reads c =
    let takes = rw c.in-Ok-true.field-0-test at c.in-Ok-true.ensures in
    let judged = rw c.in-Ok-Some.field-0-is at c.in-Ok-Some.ensures in
    let number = c.rows.self.number in
    let rest = rows_left c.next_row.new.reader in
    c.rows.invariant.says ∙ ap (text_left number c.rows.self.heads) takes.first
    ∙ left_record number c.rows.self.heads (cells c.next_row.new.row) rest c.in-Ok-Some.found judged.0 judged.1.1
    ∙ ap (λ (heads : HeadsView). with_first c.in-Ok-Some.found (text_left (number + 1) heads rest)) (sym judged.1.0)

pub rows-preserved : goal.rows-preserved
rows-preserved c =
    let takes = rw c.in-Ok-true.field-0-test at c.in-Ok-true.ensures in
    let judged = rw c.in-Ok-None.field-0-is at c.in-Ok-None.ensures in
    let number = c.rows.self.number in
    let rest = rows_left c.next_row.new.reader in
    record {
      unread = record { between = takes.goes_on; counted = omega (arith, takes.shorter, c.rows.invariant.unread.counted) };
      says = c.rows.invariant.says ∙ ap (text_left number c.rows.self.heads) takes.first
          ∙ left_skip number c.rows.self.heads (cells c.next_row.new.row) rest judged.0 judged.1.1
          ∙ ap (λ (heads : HeadsView). text_left (number + 1) heads rest) (sym judged.1.0);
      fewer = omega (arith, takes.shorter, c.rows.invariant.fewer);
    }

pub returns-in-Err-take-clause-reads : goal.returns-in-Err-take-clause-reads
returns-in-Err-take-clause-reads c =
    let takes = rw c.in-Ok-true.field-0-test at c.in-Ok-true.ensures in
    rw c.fault_at-in-Err-take.ensures (row_fails c.rows.self.number c.rows.self.heads (rows_left c.rows.self.reader) (rows_left c.next_row.new.reader) (cells c.next_row.new.row)
    c.in-Err-take.fault _ c.rows.invariant.says takes.first c.in-Err-take.ensures)

use Rattle.std.proofs.Common.{◌∙◌, ap, sym, Some, not, List}
use Rattle.mfcsv.specs.Unread.{cells}
use Rattle.mfcsv.specs.declared.Column.{Column}
use Rattle.mfcsv.proofs.FaultLemmas.{heads_after-columns, repeated_columns, right_columns, wrong_columns}
use Rattle.mfcsv.proofs.header.Heads.take_columns.Goals as goal

pub returns-then-has_columns : goal.returns-then-has_columns
returns-then-has_columns c = repeated_columns c.args.self.now (cells c.args.row.now) c.requires.text c.requires.kind (sym c.has_columns.ensures ∙ c.if-has_columns.true)

pub returns-then-not-has_fixed_columns : goal.returns-then-not-has_fixed_columns
returns-then-not-has_fixed_columns c =
    wrong_columns c.args.self.now (cells c.args.row.now) c.requires.text c.requires.kind (sym c.has_columns.ensures ∙ c.if-has_columns.false) (c.has_fixed_columns.ensures ∙ ap not c.if-not-has_fixed_columns.true)

pub returns : goal.returns
returns c =
    let row = cells c.args.row.now in (
      right_columns c.args.self.now row c.requires.text c.requires.kind (sym c.has_columns.ensures ∙ c.if-has_columns.false) (c.has_fixed_columns.ensures ∙ ap not c.if-not-has_fixed_columns.false),
      c.set_columns.ensures ∙ ap (λ (columns : List Column). record c.args.self.now { columns = Some (record { number = c.args.number; columns = columns }) }) c.in_ok-columns.ensures
          ∙ sym (heads_after-columns c.args.number c.args.self.now row c.requires.kind),
    )

use Rattle.std.proofs.Common.{◌∙◌, ap, sym, Some}
use Rattle.std.proofs.lemmas.Result.{err_from_is_err_and}
use Rattle.mfcsv.specs.Unread.{cells}
use Rattle.mfcsv.specs.Views.{BoundsView}
use Rattle.mfcsv.proofs.FaultLemmas.{first_bounds, heads_after-bounds, repeated_bounds}
use Rattle.mfcsv.proofs.header.Heads.take_bounds.Goals as goal

pub returns-then-has_bounds : goal.returns-then-has_bounds
returns-then-has_bounds c = repeated_bounds c.args.self.now (cells c.args.row.now) c.requires.text c.requires.kind (sym c.has_bounds.ensures ∙ c.if-has_bounds.true)

pub returns-in_err-bounds : goal.returns-in_err-bounds
returns-in_err-bounds c =
    let first = first_bounds c.args.self.now (cells c.args.row.now) c.requires.text c.requires.kind (sym c.has_bounds.ensures ∙ c.if-has_bounds.false) in
    let p = err_from_is_err_and c.from_residual.result c.from_residual.ensures.1 in
    rw (p.1, p.2, first) c.in_err-bounds.ensures

pub returns : goal.returns
returns c =
    let row = cells c.args.row.now in (
      first_bounds c.args.self.now row c.requires.text c.requires.kind (sym c.has_bounds.ensures ∙ c.if-has_bounds.false) ∙ c.in_ok-bounds.ensures.0,
      c.set_bounds.ensures ∙ ap (λ (b : BoundsView). record c.args.self.now { bounds = Some b }) c.in_ok-bounds.ensures.1 ∙ sym (heads_after-bounds c.args.number c.args.self.now row c.requires.kind),
    )

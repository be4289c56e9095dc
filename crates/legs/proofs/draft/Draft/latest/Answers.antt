use Rattle.std.proofs.Common.{sym, ◌∙◌}
use Rattle.legs.proofs.DraftLemmas.{known-first, known-next, latest_in-none, latest_in-some}
use Rattle.legs.proofs.draft.Draft.latest.Goals as goal

pub returns-in_err-feature-in-None : goal.returns-in_err-feature-in-None
returns-in_err-feature-in-None c = λ at few.
    c.from_residual.ensures ∙ latest_in-none c.args.self.now.tracks.now c.args.name.now (c.in_err-feature-in-None.ensures few)
    ∙ sym (known-next c.args.self.now c.args.name.now (sym c.in-None.is ∙ at))

pub returns-in_err-end-in-None : goal.returns-in_err-end-in-None
returns-in_err-end-in-None c = λ at few.
    c.from_residual-in_err-end-in-None.ensures
    ∙ latest_in-some c.args.self.now.tracks.now c.args.name.now c.in_ok-feature-in-None.feature _ (c.in_ok-feature-in-None.ensures few) c.in_err-end-in-None.ensures.value
    ∙ sym (known-next c.args.self.now c.args.name.now (sym c.in-None.is ∙ at))

pub returns-in-Some : goal.returns-in-Some
returns-in-Some c = λ at few. sym (known-first c.args.self.now c.args.name.now c.in-Some.place _ (sym c.in-Some.is ∙ at) c.latest.ensures)

pub returns-in_ok-end-in-None : goal.returns-in_ok-end-in-None
returns-in_ok-end-in-None c = λ at few.
    latest_in-some c.args.self.now.tracks.now c.args.name.now c.in_ok-feature-in-None.feature _ (c.in_ok-feature-in-None.ensures few) c.in_ok-end-in-None.ensures.value
    ∙ sym (known-next c.args.self.now c.args.name.now (sym c.in-None.is ∙ at))

use Rattle.std.proofs.Common.{◌∙◌, ap, sym, Some}
use Rattle.boxsearch.proofs.PushLemmas.{some_same}
use Rattle.treecheck.proofs.LevelsLemmas.{same_box}
use Rattle.treecheck.proofs.levels.are_bounds.Goals as goal

pub returns-in-Some : goal.returns-in-Some
returns-in-Some c =
    let d = same_box c.args.bounds.now c.in-Some.least in
    let f = sym c.in-Some.is ∙ c.cover_of.ensures in
    (λ t. ap Some (d.0 (sym c.eq.ensures ∙ t)) ∙ f, λ e. c.eq.ensures ∙ d.1 (some_same c.args.bounds.now c.in-Some.least (e ∙ sym f)))

use Rattle.std.proofs.Common.{All, subst, sym}
use Rattle.std.proofs.lemmas.Result.{IfOk-weaker}
use Rattle.visiting.proofs.DwellLemmas.{IsNear, near_all}
use Rattle.visiting.proofs.dwells.dwells_of.Goals as goal

pub returns-clause-near : goal.returns-clause-near
returns-clause-near g c =
    IfOk-weaker c.joined_of.result _ _
    (λ dwells is. subst (All IsNear) (sym is) (near_all g.V.Lasting.feature g.V.Lasting.least g.V.Lasting.most g.met.V.Lasting.near c.args.visits.now))
    c.joined_of.ensures

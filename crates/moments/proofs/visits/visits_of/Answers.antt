use Rattle.std.proofs.Common.{All, subst, sym}
use Rattle.std.proofs.lemmas.Result.{IfOk-weaker}
use Rattle.moments.proofs.VisitLemmas.{IsForward, forward_all}
use Rattle.moments.proofs.visits.visits_of.Goals as goal

pub returns-clause-ordered : goal.returns-clause-ordered
returns-clause-ordered c = IfOk-weaker c.joined_of.result _ _ (λ visits is. λ all. subst (All IsForward) (sym is) (forward_all c.args.stays.now all)) c.joined_of.ensures

use Rattle.catalogue.proofs.RestLemmas.{rest_stays}
use Rattle.trajdb.proofs.SafeLemmas.{keeps_store}
use Rattle.trajdb.proofs.db.Db.check.Goals as goal

pub returns-clause-call : goal.returns-clause-call
returns-clause-call g c = rw (← c.self.view_is) c.check.ensures

pub returns-clause-keeps : goal.returns-clause-keeps
returns-clause-keeps g c = rw (← c.self.view_is) (keeps_store rest_stays _ _ c.check.ensures.pages c.check.ensures.leaves.index.later (λ failed. (c.check.ensures.was_failed failed).1))

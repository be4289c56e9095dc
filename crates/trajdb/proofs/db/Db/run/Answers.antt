use Rattle.catalogue.proofs.RestLemmas.{rest_stays}
use Rattle.trajdb.proofs.SafeLemmas.{keeps_store}
use Rattle.trajdb.proofs.db.Db.run.Goals as goal

pub returns-clause-ok : goal.returns-clause-ok
returns-clause-ok g c = rw (← c.self.view_is) c.run.ensures.ok

pub returns-clause-call : goal.returns-clause-call
returns-clause-call g c = rw (← c.self.view_is) c.run.ensures.call

pub returns-clause-keeps : goal.returns-clause-keeps
returns-clause-keeps g c = rw (← c.self.view_is) (keeps_store rest_stays _ _ c.run.ensures.call.pages c.run.ensures.call.later.index (λ failed. (c.run.ensures.call.was_failed failed).1))

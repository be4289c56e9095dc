use Rattle.catalogue.proofs.RestLemmas.{rest_stays}
use Rattle.trajdb.proofs.SafeLemmas.{keeps_store}
use Rattle.trajdb.proofs.db.Db.command.Goals as goal

pub returns-clause-call : goal.returns-clause-call
returns-clause-call g c = rw (← c.self.view_is) c.command.ensures

pub returns-clause-keeps : goal.returns-clause-keeps
returns-clause-keeps g c = rw (← c.self.view_is) (keeps_store rest_stays _ _ c.command.ensures.pages c.command.ensures.later.index (λ failed. (c.command.ensures.was_failed failed).1))

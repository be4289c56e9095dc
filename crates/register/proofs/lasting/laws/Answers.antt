use Rattle.register.proofs.BookLemmas.{stands_for_some}
use Rattle.register.proofs.SameLemmas.{kept_same}
use Rattle.register.proofs.StateLemmas.{stated_says}
use Rattle.register.proofs.lasting.laws.Goals as goal

pub returns-clause-same : goal.returns-clause-same
returns-clause-same c = kept_same

pub returns-clause-state : goal.returns-clause-state
returns-clause-state c = stated_says

pub returns-clause-books : goal.returns-clause-books
returns-clause-books c = stands_for_some

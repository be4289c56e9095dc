use Rattle.std.proofs.Common.{◌≡◌, ◌∙◌, sym, false}
use Rattle.catalogue.proofs.RestLemmas.{rest_stays}
use Rattle.trajdb.proofs.SafeLemmas.{leaves_store}
use Rattle.trajdb.proofs.db.Db.legs.Goals as goal

pub returns-clause-found : goal.returns-clause-found
returns-clause-found g c = rw (← c.self.view_is) c.legs_for.ensures.found

pub returns-clause-keeps : goal.returns-clause-keeps
returns-clause-keeps g c =
    let lives : c.self.inside.core.failed ≡ false = sym (λ i. (c.self-inside.view_is i).core.failed) ∙ c.if-self.false in
    rw (← c.self.view_is) (leaves_store rest_stays _ _ c.legs_for.ensures.leaves lives)

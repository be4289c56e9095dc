use Rattle.std.proofs.Common.{Some, refl, subst}
use Rattle.std.specs.Prelude.{filter}
use Rattle.chains.specs.Taking.{IsFirstLive}
use Rattle.chains.specs.Links.{is_kept}
use Rattle.chains.proofs.SieveLemmas.{none_taken}
use Rattle.chains.proofs.kept.push_live.Goals as goal

pub returns-in_default-first_live : goal.returns-in_default-first_live
returns-in_default-first_live c = λ view e. (
  refl,
  none_taken (Some c.args.period.now) c.args.sieve.now (filter (is_kept (Some c.args.period.now)) view.legs) c.args.found.now.items
      (subst (λ o. IsFirstLive c.args.period.now view.legs o) c.in_default-first_live.is (c.first_live.ensures view e)),
)

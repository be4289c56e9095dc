use Rattle.legs.specs.Sieves.{IsOff}
use Rattle.clipping.specs.Inside.{InRect}
use Rattle.predicates.proofs.EndLemmas.{ends_same}
use Rattle.predicates.proofs.SieveLemmas.{all_same, near_same, off_never}
use Rattle.predicates.proofs.sieves.sieve.Goals as goal

pub returns-in-Always-clause-kept : goal.returns-in-Always-clause-kept
returns-in-Always-clause-kept c = λ all some period. all_same (InRect c.args.rect.now) period all some c.args.predicate

pub returns-in-Enters-clause-kept : goal.returns-in-Enters-clause-kept
returns-in-Enters-clause-kept c = λ all some period s. ends_same period all some s.first s.last (InRect c.args.rect.now) c.args.predicate c.in-Enters.is

pub returns-in_default-clause-kept : goal.returns-in_default-clause-kept
returns-in_default-clause-kept c = λ all some period s.
    near_same (InRect c.args.rect.now) period (IsOff c.args.rect.now period) (off_never c.args.rect.now period) all some s.of s.first s.last c.args.predicate
    (λ e. c.in_default.not-Always e) (λ e. c.in_default.not-Enters e) (λ e. c.in_default.not-Leaves e)

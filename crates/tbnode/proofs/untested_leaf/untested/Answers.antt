use Rattle.std.proofs.Common.{ap, sym, ◌∙◌}
use Rattle.std.specs.Option.{is_some}
use Rattle.tbnode.proofs.KindLemmas.{a_leaf, held, seen_other}
use Rattle.tbnode.proofs.UntestedLemmas.{leaf_counted}
use Rattle.tbnode.proofs.untested_leaf.untested.Goals as goal

pub returns-else-is_counted-clause-some : goal.returns-else-is_counted-clause-some
returns-else-is_counted-clause-some c = λ h.
    sym c.if-is_counted.false ∙ c.is_counted.ensures ∙ leaf_counted c.args.payload.now (held a_leaf c.args.payload.now h)

pub returns-in_default : goal.returns-in_default
returns-in_default c = record { value = tt; some = λ h. ap is_some (seen_other a_leaf c.args.payload.now c.in_default.not-Leaf) ∙ h }

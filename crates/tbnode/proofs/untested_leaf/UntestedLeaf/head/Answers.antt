use Rattle.std.proofs.Common.{ap, ◌∙◌}
use Rattle.tbnode.specs.Form.{leaf_from_bytes}
use Rattle.tbnode.specs.Parts.{number_at}
use Rattle.tbnode.proofs.UntestedLemmas.{says}
use Rattle.tbnode.proofs.untested_leaf.UntestedLeaf.head.Goals as goal

pub returns-clause-feature : goal.returns-clause-feature
unfolding leaf_from_bytes
returns-clause-feature c = λ leaf e. c.u32_at.ensures ∙ ap (λ p. number_at 4 0 p.bytes) c.self.view_is ∙ ap (λ v. v.feature) (says c.args.self.now leaf e).is

pub returns-clause-previous : goal.returns-clause-previous
unfolding leaf_from_bytes
returns-clause-previous c = λ leaf e. c.u32_at-2.ensures ∙ ap (λ p. number_at 4 4 p.bytes) c.self.view_is ∙ ap (λ v. v.previous) (says c.args.self.now leaf e).is

pub returns-clause-next : goal.returns-clause-next
unfolding leaf_from_bytes
returns-clause-next c = λ leaf e. c.u32_at-3.ensures ∙ ap (λ p. number_at 4 8 p.bytes) c.self.view_is ∙ ap (λ v. v.next) (says c.args.self.now leaf e).is

use Rattle.version1.proofs.OldFormLemmas.{old_leaf-some, old_leaf-none, old_leaf-other}
use Rattle.std.proofs.Common.{sym, ◌∙◌}
use Rattle.version1.proofs.old_form.old_leaf.Goals as goal

pub returns-then-is_old_leaf : goal.returns-then-is_old_leaf
returns-then-is_old_leaf c = old_leaf-some c.args.payload.now _ c.in-Leaf.is (sym c.is_old_leaf.ensures ∙ c.if-is_old_leaf.true) c.over.ensures

pub returns-else-is_old_leaf : goal.returns-else-is_old_leaf
returns-else-is_old_leaf c = old_leaf-none c.args.payload.now c.in-Leaf.is (sym c.is_old_leaf.ensures ∙ c.if-is_old_leaf.false)

pub returns-in_default : goal.returns-in_default
returns-in_default c = old_leaf-other c.args.payload.now c.in_default.not-Leaf

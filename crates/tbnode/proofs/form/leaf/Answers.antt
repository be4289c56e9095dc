use Rattle.tbnode.proofs.KindLemmas.{a_leaf, seen_some, seen_none, seen_other}
use Rattle.std.proofs.Common.{sym, ◌∙◌}
use Rattle.tbnode.proofs.form.leaf.Goals as goal

pub returns-then-is_leaf : goal.returns-then-is_leaf
returns-then-is_leaf c = seen_some a_leaf c.args.payload.now _ c.in-Leaf.is (sym c.is_leaf.ensures ∙ c.if-is_leaf.true) c.over.ensures

pub returns-else-is_leaf : goal.returns-else-is_leaf
returns-else-is_leaf c = seen_none a_leaf c.args.payload.now c.in-Leaf.is (sym c.is_leaf.ensures ∙ c.if-is_leaf.false)

pub returns-in_default : goal.returns-in_default
returns-in_default c = seen_other a_leaf c.args.payload.now c.in_default.not-Leaf

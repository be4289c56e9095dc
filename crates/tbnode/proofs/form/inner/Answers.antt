use Rattle.tbnode.proofs.KindLemmas.{an_inner, seen_some, seen_none, seen_other}
use Rattle.std.proofs.Common.{sym, ◌∙◌}
use Rattle.tbnode.proofs.form.inner.Goals as goal

pub returns-then-is_inner : goal.returns-then-is_inner
returns-then-is_inner c = seen_some an_inner c.args.payload.now _ c.in-Inner.is (sym c.is_inner.ensures ∙ c.if-is_inner.true) c.over.ensures

pub returns-else-is_inner : goal.returns-else-is_inner
returns-else-is_inner c = seen_none an_inner c.args.payload.now c.in-Inner.is (sym c.is_inner.ensures ∙ c.if-is_inner.false)

pub returns-in_default : goal.returns-in_default
returns-in_default c = seen_other an_inner c.args.payload.now c.in_default.not-Inner

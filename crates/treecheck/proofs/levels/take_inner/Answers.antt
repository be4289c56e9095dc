use Rattle.std.proofs.Common.{Some, refl, sym, ap, ◌∙◌, ◌++◌, map, subst}
use Rattle.std.proofs.lemmas.Bool.{true≢false}
use Rattle.tbnode.specs.Form.{node_of}
use Rattle.tbnode.specs.Nodes.{as_inner}
use Rattle.tbtree.specs.Descent.{entries_in}
use Rattle.treecheck.specs.Levels.{IsAbove}
use Rattle.treecheck.proofs.WalkLemmas.{inner_is, same_some}
use Rattle.treecheck.proofs.levels.take_inner.Goals as goal

pub returns-in_default : goal.returns-in_default
returns-in_default c = record {
  taken = λ t. absurd (true≢false (sym t));
  whole = λ h. absurd (c.in_default.not-Some h.0 (c.inner.ensures ∙ ap as_inner h.1));
}

pub returns-then-not-is_above : goal.returns-then-not-is_above
returns-then-not-is_above c = record {
  taken = λ t. absurd (true≢false (sym t));
  whole = λ h.
      let same = same_some h.0 c.in-Some.inner (sym (c.inner.ensures ∙ ap as_inner h.1) ∙ c.in-Some.is) in
      sym c.if-not-is_above.true ∙ c.is_above.ensures.1 (subst (IsAbove c.args.level c.args.width c.args.leaves.now) same h.2);
}

pub returns : goal.returns
returns c =
    let inner = c.in-Some.inner in
    let is = inner_is (node_of c.args.payload.now) inner (sym c.inner.ensures ∙ c.in-Some.is) in
    record {
      taken = λ t. (
        (inner, sym is, c.is_above.ensures.0 c.if-not-is_above.false),
        c.in_ok-push_named.ensures ∙ ap (λ node. c.args.below.now.items ++ map (λ e. e.child) (entries_in (Some node))) is,
      );
      whole = λ h. refl;
    }

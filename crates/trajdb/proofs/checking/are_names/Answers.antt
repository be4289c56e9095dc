use Rattle.std.proofs.Common.{sym, ◌∙◌, refl, arith}
use Rattle.std.proofs.lemmas.Bool.{true≢false}
use Rattle.trajdb.proofs.CheckLemmas.{names_own, own_names}
use Rattle.trajdb.proofs.checking.are_names.Goals as goal

pub returns-then-not-is_own_name : goal.returns-then-not-is_own_name
returns-then-not-is_own_name c = (
  λ t. absurd (true≢false (sym t)),
  λ are. absurd (true≢false (sym (c.is_own_name.ensures.1 (names_own c.args.tracks.now.names are c.loop-feature.feature)) ∙ c.if-not-is_own_name.true)),
)

pub returns : goal.returns
returns c = (
  λ t. own_names c.args.tracks.now.names (λ f l. c.loop-feature.invariant f
      (let e = c.loop-feature-test.false in let n = c.feature_count-feature-end.ensures in let r = c.requires in omega (arith, l, e, n, r))),
  λ are. refl,
)

use Rattle.std.proofs.Common.{rules, ◌≡◌, ◌++◌, map, option_map, Some, IsTrue, sym, ap, ◌∙◌, arith}
use Rattle.std.proofs.lemmas.Bool.{true≢false}
use Rattle.tbnode.specs.Form.{node_of}
use Rattle.tbtree.specs.Descent.{entries_in}
use Rattle.tbtree.specs.Nodes.{pages_of_cache}
use Rattle.chains.proofs.ReadLemmas.{reads_refl}
use Rattle.treecheck.proofs.FindLemmas.{malformed}
use Rattle.treecheck.proofs.WalkLemmas.{same_some}
use Rattle.treecheck.proofs.levels.take_page.Given as given
use Rattle.treecheck.proofs.levels.take_page.Goals.{After-take_inner}
use Rattle.treecheck.proofs.levels.take_page.Goals as goal

-- what the page says, over a faithful store
says : (g : given.Over) (c : After-take_inner g) → IsTrue c.args.cache.now.store.is_faithful → (pages_of_cache c.args.cache.now).at c.args.page ≡ Some (node_of c.in-Ok.payload.now)
says g c fa = ap (option_map node_of) (c.in-Ok.ensures.value fa)

pub returns-then-page-eq0 : goal.returns-then-page-eq0
returns-then-page-eq0 g c =
    malformed c.args.cache.now c.args.cache.now c.args.page (reads_refl c.args.cache.now) (λ fa h. let above = h.above in omega (arith, above, c.if-page-eq0.true))

pub returns-in-Err : goal.returns-in-Err
returns-in-Err g c = record { found = λ fa. tt; only = search rules; reads = record { only = search rules; caused = search rules } }

pub returns-in_err-take_inner : goal.returns-in_err-take_inner
returns-in_err-take_inner g c = record { found = search rules; only = search rules; reads = record { only = search rules; caused = search rules } }

pub returns-then-branch : goal.returns-then-branch
returns-then-branch g c = record {
  found = λ fa.
      let h = c.in_ok-take_inner.ensures.taken c.if-branch.true in
      let at = says g (goal.at.returns-then-branch g c).After-take_inner fa in (
        record { above = omega (arith, c.if-page-eq0.false); within = c.in-Ok.ensures.below; page = h.0.0; is = at ∙ ap (λ node. Some node) h.0.1; is_above = h.0.2 },
        h.1 ∙ ap (λ at. c.args.below.now.items ++ map (λ e. e.child) (entries_in at)) (sym at),
      );
  only = λ fa s. tt;
  reads = record { only = search rules; caused = tt };
}

pub returns-else-branch : goal.returns-else-branch
returns-else-branch g c = record {
  found = λ fa. tt;
  only = λ fa s.
      let at = says g (goal.at.returns-else-branch g c).After-take_inner fa in
      absurd (true≢false (sym (c.in_ok-take_inner.ensures.whole (s.page, same_some _ _ (sym at ∙ s.is), s.is_above)) ∙ c.if-branch.false));
  reads = record { only = search rules; caused = tt };
}

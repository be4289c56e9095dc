use Rattle.std.proofs.Common.{rules, ◌≡◌, option_map, Some, IsTrue, sym, ap, ◌∙◌, arith}
use Rattle.std.proofs.lemmas.Bool.{true≢false}
use Rattle.tbnode.specs.Form.{node_of}
use Rattle.tbtree.specs.Nodes.{pages_of_cache}
use Rattle.chains.proofs.ReadLemmas.{reads_refl}
use Rattle.treecheck.proofs.FindLemmas.{malformed}
use Rattle.treecheck.proofs.WalkLemmas.{page_next, page_taken}
use Rattle.treecheck.proofs.walking.CachedLeafReader.take_leaf.Given as given
use Rattle.treecheck.proofs.walking.CachedLeafReader.take_leaf.Goals.{After-take_payload}
use Rattle.treecheck.proofs.walking.CachedLeafReader.take_leaf.Goals as goal

-- what the page says, over a faithful store
says : (g : given.Over) (c : After-take_payload g) → IsTrue c.args.cache.now.store.is_faithful → (pages_of_cache c.args.cache.now).at c.args.walk.now.page ≡ Some (node_of c.in-Ok.payload.now)
says g c fa = ap (option_map node_of) (c.in-Ok.ensures.value fa)

pub returns-then-walk-eq0 : goal.returns-then-walk-eq0
returns-then-walk-eq0 g c =
    malformed c.args.cache.now c.args.cache.now c.args.walk.now.previous (reads_refl c.args.cache.now) (λ fa h. let above = h.0.above in omega (arith, above, c.if-walk-eq0.true))

pub returns-in-Err : goal.returns-in-Err
returns-in-Err g c = record { found = λ fa. tt; only = search rules; reads = record { only = search rules; caused = search rules } }

pub returns-in_err-take_payload : goal.returns-in_err-take_payload
returns-in_err-take_payload g c = record { found = search rules; only = search rules; reads = record { only = search rules; caused = search rules } }

pub returns-then-branch : goal.returns-then-branch
returns-then-branch g c = record {
  found = λ fa some.
      page_taken c.args.most c.args.rows (node_of c.in-Ok.payload.now) c.args.walk.now c.take_payload.new.walk c.args.survey.now c.take_payload.new.survey (pages_of_cache c.args.cache.now)
      (says g (goal.at.returns-then-branch g c).After-take_payload fa) some (omega (arith, c.if-walk-eq0.false)) c.in-Ok.ensures.below (c.in_ok-take_payload.ensures.taken c.if-branch.true);
  only = λ fa h. tt;
  reads = record { only = search rules; caused = tt };
}

pub returns-else-branch : goal.returns-else-branch
returns-else-branch g c = record {
  found = λ fa. tt;
  only = λ fa h.
      let next = page_next c.args.most c.args.rows (node_of c.in-Ok.payload.now) c.args.walk.now c.take_payload.new.walk c.args.survey.now c.take_payload.new.survey (pages_of_cache c.args.cache.now)
      (says g (goal.at.returns-else-branch g c).After-take_payload fa) h in
      absurd (true≢false (sym (c.in_ok-take_payload.ensures.whole next) ∙ c.if-branch.false));
  reads = record { only = search rules; caused = tt };
}

use Rattle.std.proofs.Common.{rules, ◌≡◌, option_map, Some, IsTrue, sym, ap, ◌∙◌, arith}
use Rattle.std.proofs.lemmas.Bool.{true≢false}
use Rattle.pagecache.specs.Cache.{fresh}
use Rattle.chains.specs.Reads.{OnlyReads}
use Rattle.chains.proofs.ReadLemmas.{reads_refl}
use Rattle.treecheck.specs.Walking.{pages_by}
use Rattle.treecheck.proofs.FindLemmas.{malformed}
use Rattle.treecheck.proofs.WalkLemmas.{page_next, page_taken}
use Rattle.version1.specs.OldForm.{old_node_of}
use Rattle.version1.proofs.OldLemmas.{reads_stays}
use Rattle.version1.proofs.old_legs.LentLeafReader.take_leaf.Given as given
use Rattle.version1.proofs.old_legs.LentLeafReader.take_leaf.Goals.{After-read_payload, After-take_old_payload}
use Rattle.version1.proofs.old_legs.LentLeafReader.take_leaf.Goals as goal

-- what the page says, over a faithful store
says : (g : given.Over) (c : After-take_old_payload g) → IsTrue (g.S.PageStore.seen c.args.store.now).is_faithful
    → (pages_by old_node_of (fresh (g.S.PageStore.seen c.args.store.now) 1)).at c.args.walk.now.page ≡ Some (old_node_of c.in-Ok.payload)
says g c fa = ap (option_map old_node_of) (c.in-Ok.ensures.value fa)

-- the store stays as it is
stays : (g : given.Over) (c : After-read_payload g) → OnlyReads (fresh (g.S.PageStore.seen c.args.store.now) 1) (fresh (g.S.PageStore.seen c.read_payload.new.store) 1)
stays g c = reads_stays (g.S.PageStore.seen c.args.store.now) (g.S.PageStore.seen c.read_payload.new.store) c.read_payload.ensures.stays

pub returns-then-walk-eq0 : goal.returns-then-walk-eq0
returns-then-walk-eq0 g c =
    let first = fresh (g.S.PageStore.seen c.args.store.now) 1 in
    malformed first first c.args.walk.now.previous (reads_refl first) (λ fa h. let above = h.0.above in omega (arith, above, c.if-walk-eq0.true))

pub returns-in-Err : goal.returns-in-Err
returns-in-Err g c = record {
  found = λ fa. tt;
  only = search rules;
  reads = record { only = stays g (goal.at.returns-in-Err g c).After-read_payload; caused = c.in-Err.ensures.caused };
}

pub returns-in_err-take_old_payload : goal.returns-in_err-take_old_payload
returns-in_err-take_old_payload g c = record {
  found = search rules;
  only = search rules;
  reads = record { only = stays g (goal.at.returns-in_err-take_old_payload g c).After-read_payload; caused = search rules };
}

pub returns-then-branch : goal.returns-then-branch
returns-then-branch g c =
    let at = goal.at.returns-then-branch g c in
    record {
      found = λ fa some.
          page_taken c.args.most c.args.rows (old_node_of c.in-Ok.payload) c.args.walk.now c.take_old_payload.new.walk c.args.survey.now c.take_old_payload.new.survey (pages_by old_node_of (fresh (g.S.PageStore.seen c.args.store.now) 1))
          (says g at.After-take_old_payload fa) some (omega (arith, c.if-walk-eq0.false)) c.in-Ok.ensures.below (c.in_ok-take_old_payload.ensures.taken c.if-branch.true);
      only = λ fa h. tt;
      reads = record { only = stays g at.After-read_payload; caused = tt };
    }

pub returns-else-branch : goal.returns-else-branch
returns-else-branch g c =
    let at = goal.at.returns-else-branch g c in
    record {
      found = λ fa. tt;
      only = λ fa h.
          let next = page_next c.args.most c.args.rows (old_node_of c.in-Ok.payload) c.args.walk.now c.take_old_payload.new.walk c.args.survey.now c.take_old_payload.new.survey (pages_by old_node_of (fresh (g.S.PageStore.seen c.args.store.now) 1))
          (says g at.After-take_old_payload fa) h in
          absurd (true≢false (sym (c.in_ok-take_old_payload.ensures.whole next) ∙ c.if-branch.false));
      reads = record { only = stays g at.After-read_payload; caused = tt };
    }

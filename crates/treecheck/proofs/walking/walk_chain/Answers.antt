use Rattle.std.proofs.Common.{◌≡◌, ◌<◌, ◌≤◌, IsTrue, sym, ap, ◌∙◌, subst, arith}
use Rattle.std.proofs.lemmas.Bool.{true≢false}
use Rattle.std.proofs.lemmas.Result.{err_from_is_err_and}
use Rattle.treecheck.specs.Check.{IsLeafOf}
use Rattle.tbtree.specs.Turn.{ComeInTurn}
use Rattle.tbtree.specs.Descent.{legs_in}
use Rattle.treecheck.specs.Walking.{pages_by, TakesLeaf}
use Rattle.chains.proofs.ReadLemmas.{reads_refl, reads_trans}
use Rattle.treecheck.specs.declared.walking.Walk.{Walk}
use Rattle.treecheck.proofs.FindLemmas.{fails, gives, malformed}
use Rattle.treecheck.proofs.WalkedLemmas.{same_by, walked_none, walked_on, walked_leaf, walked_end, walked_whole, some_left, none_left, next_left}
use Rattle.treecheck.proofs.walking.walk_chain.Given as given
use Rattle.treecheck.proofs.walking.walk_chain.Goals.{After-leaves, After-take_leaf, In_ok-take_leaf}
use Rattle.treecheck.proofs.walking.walk_chain.Goals as goal

-- in the loop some legs are left to meet, and none behind it
some_wait : (g : given.Over) (c : After-take_leaf g) → IsTrue (g.R.LeafReader.seen c.args.source.now).store.is_faithful → 0 < c.leaves.walk.left
some_wait g c fa = some_left c.args.place.now.legs c.args.most c.leaves.counter c.leaves.walk.left c.requires (subst (λ n. c.leaves.counter < n) c.div_ceil-end.ensures c.leaves-test.true) (c.leaves.invariant.left fa)

none_wait : (g : given.Over) (c : After-leaves g) → IsTrue (g.R.LeafReader.seen c.args.source.now).store.is_faithful → c.leaves.walk.left ≡ 0
none_wait g c fa = none_left c.args.place.now.legs c.args.most c.leaves.counter c.leaves.walk.left c.requires (subst (λ n. n ≤ c.leaves.counter) c.div_ceil-end.ensures c.leaves-test.false) (c.leaves.invariant.left fa)

pub leaves-init : goal.leaves-init
leaves-init g c = record {
  reads = reads_refl (g.R.LeafReader.seen c.args.source.now);
  left = λ fa. omega arith;
  walked = λ fa. walked_none (pages_by g.R.LeafReader.node (g.R.LeafReader.seen c.args.source.now)) c.args.most c.args.rows c.args.feature c.args.place.now c.args.survey.now;
}

pub returns-in_err-take_leaf : goal.returns-in_err-take_leaf
returns-in_err-take_leaf g c =
    let p = err_from_is_err_and c.from_residual.result c.from_residual.ensures.1 in
    let first = g.R.LeafReader.seen c.args.source.now in
    let now = g.R.LeafReader.seen c.leaves.source in
    let inv = c.leaves.invariant in
    rw (p.1, p.2) (fails first now (g.R.LeafReader.seen c.take_leaf.new.source) _ inv.reads (λ fa whole.
    let nodes = pages_by g.R.LeafReader.node first in
    let some = some_wait g (goal.at.returns-in_err-take_leaf g c).After-take_leaf fa in
    let next = walked_leaf nodes c.args.most c.args.rows c.args.feature c.args.place.now c.leaves.walk c.args.survey.now c.leaves.survey c.args.track.now whole.0 (inv.walked fa) some whole.1 in
    let same = sym (same_by g.R.LeafReader.node first now inv.reads fa) in (
      subst (λ nodes. IsLeafOf nodes c.args.most c.leaves.walk.feature c.leaves.walk.previous c.leaves.walk.left c.leaves.walk.page) same next.0,
      subst (λ nodes. ComeInTurn c.leaves.walk.feature c.args.rows c.leaves.walk.last (legs_in (nodes.at c.leaves.walk.page))) same next.1,
    )) c.in_err-take_leaf.ensures)

-- a leaf that is taken is one of the pages as they were
leaf_taken : (g : given.Over) (c : goal.In_ok-take_leaf g) → IsTrue (g.R.LeafReader.seen c.args.source.now).store.is_faithful → 0 < c.leaves.walk.left
    → TakesLeaf (pages_by g.R.LeafReader.node (g.R.LeafReader.seen c.args.source.now)) c.args.most c.args.rows c.leaves.walk c.take_leaf.new.walk c.leaves.survey c.take_leaf.new.survey
leaf_taken g c fa some =
    let inv = c.leaves.invariant in
    subst (λ nodes. TakesLeaf nodes c.args.most c.args.rows c.leaves.walk c.take_leaf.new.walk c.leaves.survey c.take_leaf.new.survey)
    (same_by g.R.LeafReader.node (g.R.LeafReader.seen c.args.source.now) (g.R.LeafReader.seen c.leaves.source) inv.reads fa) (c.in_ok-take_leaf.ensures.found (inv.reads.store.faithful ∙ fa) some)

pub leaves-preserved : goal.leaves-preserved
leaves-preserved g c =
    let inv = c.leaves.invariant in
    let at = goal.at.leaves-preserved g c in
    let taken = λ (fa : IsTrue (g.R.LeafReader.seen c.args.source.now).store.is_faithful). leaf_taken g at.In_ok-take_leaf fa (some_wait g at.After-take_leaf fa) in
    record {
      reads = reads_trans (g.R.LeafReader.seen c.args.source.now) (g.R.LeafReader.seen c.leaves.source) (g.R.LeafReader.seen c.take_leaf.new.source) inv.reads c.take_leaf.ensures.reads.only;
      left = λ fa. ap (λ (w : Walk). w.left) (taken fa).next_is ∙ next_left c.args.place.now.legs c.args.most c.leaves.counter c.leaves.walk.left (inv.left fa);
      walked = λ fa. walked_on (pages_by g.R.LeafReader.node (g.R.LeafReader.seen c.args.source.now)) c.args.most c.args.rows c.args.feature c.args.place.now c.leaves.walk c.take_leaf.new.walk c.args.survey.now c.leaves.survey c.take_leaf.new.survey (inv.walked fa) (taken fa);
    }

pub returns-then-not-is_at_end : goal.returns-then-not-is_at_end
returns-then-not-is_at_end g c =
    let first = g.R.LeafReader.seen c.args.source.now in
    let inv = c.leaves.invariant in
    malformed first (g.R.LeafReader.seen c.leaves.source) c.leaves.walk.previous inv.reads (λ fa whole.
    let none = none_wait g (goal.at.returns-then-not-is_at_end g c).After-leaves fa in
    let end = walked_whole (pages_by g.R.LeafReader.node first) c.args.most c.args.rows c.args.feature c.args.place.now c.leaves.walk c.args.survey.now c.leaves.survey c.args.track.now whole.0 (inv.walked fa) none whole.1 in
    true≢false (sym (c.is_at_end.ensures.1 end) ∙ c.if-not-is_at_end.true))

pub returns : goal.returns
returns g c =
    let first = g.R.LeafReader.seen c.args.source.now in
    let inv = c.leaves.invariant in
    gives first (g.R.LeafReader.seen c.leaves.source) _ inv.reads (λ fa.
    let none = none_wait g (goal.at.returns g c).After-leaves fa in
    walked_end (pages_by g.R.LeafReader.node first) c.args.most c.args.rows c.args.feature c.args.place.now c.leaves.walk c.args.survey.now c.leaves.survey c.args.track.now (inv.walked fa) none (c.is_at_end.ensures.0 c.if-not-is_at_end.false))

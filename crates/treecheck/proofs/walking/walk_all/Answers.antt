use Rattle.std.specs.Option.{unwrap_or}
use Rattle.std.proofs.Common.{ℕ, List, length, IsTrue, rules, [], ◌∷◌, ◌++◌, ◌≡◌, ◌+◌, Some, slice_get, get_or, sym, ap, ◌∙◌, subst, arith, refl}
use Rattle.std.proofs.lemmas.Bool.{true≢false}
use Rattle.std.proofs.lemmas.Result.{err_from_is_err_and}
use Rattle.treecheck.specs.Check.{AreChains, AreLeavesOf}
use Rattle.treecheck.specs.Walking.{pages_by, Walks}
use Rattle.chains.proofs.ReadLemmas.{reads_refl, reads_trans}
use Rattle.treecheck.proofs.FindLemmas.{fails, gives, malformed}
use Rattle.treecheck.proofs.SurveyLemmas.{surveyed_on, surveyed_all, chain_of, as_many, get_at}
use Rattle.tbtree.specs.Stands.{no_place}
use Rattle.std.proofs.lemmas.Option.{slice_get-get_or}
use Rattle.treecheck.proofs.WalkedLemmas.{same_by}
use Rattle.treecheck.proofs.walking.walk_all.Given as given
use Rattle.treecheck.proofs.walking.walk_all.Goals.{After-are_paired}
use Rattle.treecheck.proofs.walking.walk_all.Goals as goal

-- where each feature has its leaves there are as many tracks as places
many : (g : given.Over) (c : After-are_paired g) (chains : List (List ℕ)) → AreChains (pages_by g.R.LeafReader.node (g.R.LeafReader.seen c.args.source.now)) c.args.most c.args.rows 0 c.args.places.now c.args.tracks.now.tracks chains
    → length c.args.tracks.now.tracks ≡ length c.args.places.now
many g c chains whole = as_many (pages_by g.R.LeafReader.node (g.R.LeafReader.seen c.args.source.now)) c.args.most c.args.rows 0 c.args.places.now c.args.tracks.now.tracks chains whole

pub returns-then-not-are_paired : goal.returns-then-not-are_paired
returns-then-not-are_paired g c =
    let first = g.R.LeafReader.seen c.args.source.now in
    malformed first first 0 (reads_refl first) (λ fa whole.
    let e = many g (goal.at.returns-then-not-are_paired g c).After-are_paired whole.1 whole.2 in
    true≢false (sym (c.are_paired.ensures.1 e) ∙ c.if-not-are_paired.true))

pub returns-then-places : goal.returns-then-places
returns-then-places g c =
    let first = g.R.LeafReader.seen c.args.source.now in
    malformed first first 0 (reads_refl first) (λ fa whole. (let few = whole.0 in omega (arith, few, c.if-places.true)))

pub returns-in_default : goal.returns-in_default
returns-in_default g c =
    malformed (g.R.LeafReader.seen c.args.source.now) (g.R.LeafReader.seen c.loop-feature.source) 0 c.loop-feature.invariant.reads (λ fa whole.
    let e = many g (goal.at.returns-in_default g c).After-are_paired whole.1 whole.2 in
    let t = get_at c.args.tracks.now.tracks c.loop-feature.feature (omega (arith, c.loop-feature-test.true, c.if-places.false, e)) in
    c.in_default.not-Some t.0 (c.track.ensures.value ∙ t.1))

pub returns-in_err-walk_chain : goal.returns-in_err-walk_chain
returns-in_err-walk_chain g c =
    let p = err_from_is_err_and c.from_residual.result c.from_residual.ensures.1 in
    let first = g.R.LeafReader.seen c.args.source.now in
    let now = g.R.LeafReader.seen c.loop-feature.source in
    let inv = c.loop-feature.invariant in
    let f = c.loop-feature.feature in
    let place = get_or c.args.places.now f no_place in
    let at : slice_get c.args.places.now f ≡ Some place = slice_get-get_or c.args.places.now f no_place (omega (arith, c.loop-feature-test.true, c.if-places.false)) in
    rw (p.1, p.2) (fails first now (g.R.LeafReader.seen c.walk_chain.new.source) _ inv.reads (λ fa whole.
    let ch = chain_of (pages_by g.R.LeafReader.node first) c.args.most c.args.rows 0 f c.args.places.now c.args.tracks.now.tracks whole.1 f place c.in-Some.track whole.2 at (sym c.track.ensures.value ∙ c.in-Some.is) (omega arith) in
    (ch.0, subst (λ nodes. AreLeavesOf nodes c.args.most c.args.rows f place c.in-Some.track ch.0) (sym (same_by g.R.LeafReader.node first now inv.reads fa)) ch.1)) c.in_err-walk_chain.ensures)

pub returns-in_err-push : goal.returns-in_err-push
returns-in_err-push g c = record {
  found = search rules;
  only = search rules;
  reads = record {
    only = reads_trans (g.R.LeafReader.seen c.args.source.now) (g.R.LeafReader.seen c.loop-feature.source) (g.R.LeafReader.seen c.walk_chain.new.source) c.loop-feature.invariant.reads c.walk_chain.ensures.reads.only;
    caused = search rules;
  };
}

pub loop-feature-preserved : goal.loop-feature-preserved
loop-feature-preserved g c =
    let inv = c.loop-feature.invariant in
    let nodes = pages_by g.R.LeafReader.node (g.R.LeafReader.seen c.args.source.now) in
    let f = c.loop-feature.feature in
    let place = get_or c.args.places.now f no_place in
    let at : slice_get c.args.places.now f ≡ Some place = slice_get-get_or c.args.places.now f no_place (omega (arith, c.loop-feature-test.true, c.if-places.false)) in
    let walks : IsTrue (g.R.LeafReader.seen c.args.source.now).store.is_faithful → Walks nodes c.args.most c.args.rows f place c.in-Some.track c.loop-feature.survey c.walk_chain.new.survey = λ fa.
    subst (λ nodes. Walks nodes c.args.most c.args.rows f place c.in-Some.track c.loop-feature.survey c.walk_chain.new.survey) (same_by g.R.LeafReader.node (g.R.LeafReader.seen c.args.source.now) (g.R.LeafReader.seen c.loop-feature.source) inv.reads fa) (c.in_ok-walk_chain.ensures.found (inv.reads.store.faithful ∙ fa)) in
    record {
      reads = reads_trans (g.R.LeafReader.seen c.args.source.now) (g.R.LeafReader.seen c.loop-feature.source) (g.R.LeafReader.seen c.walk_chain.new.source) inv.reads c.walk_chain.ensures.reads.only;
      surveyed = λ fa.
          surveyed_on nodes c.args.most c.args.rows f (f + 1) c.args.places.now c.args.tracks.now.tracks place c.in-Some.track c.loop-feature.survey c.walk_chain.new.survey
          (record { ordinals = c.walk_chain.new.survey.ordinals; leaves = c.walk_chain.new.survey.leaves; firsts = c.push.new.self }) refl at (sym c.track.ensures.value ∙ c.in-Some.is) (inv.surveyed fa) (walks fa) refl refl
          (c.in_ok-push.ensures.items ∙ ap (λ n. c.walk_chain.new.survey.firsts.items ++ n ∷ []) (c.ordinal_at.ensures ∙ (λ i. unwrap_or (slice_get (c.deref.ensures.value i) ((c.len-start.ensures ∙ c.loop-feature.survey.ordinals.ok.0) i)) 0)));
    }

pub returns : goal.returns
returns g c =
    let first = g.R.LeafReader.seen c.args.source.now in
    gives first (g.R.LeafReader.seen c.loop-feature.source) c.loop-feature.survey c.loop-feature.invariant.reads (λ fa.
    surveyed_all (pages_by g.R.LeafReader.node first) c.args.most c.args.rows c.loop-feature.feature c.args.places.now c.args.tracks.now.tracks c.loop-feature.survey (omega (arith, c.loop-feature-test.false, c.if-places.false)) (c.are_paired.ensures.0 c.if-not-are_paired.false) (c.loop-feature.invariant.surveyed fa))

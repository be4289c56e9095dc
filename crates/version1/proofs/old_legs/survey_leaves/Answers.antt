use Rattle.std.proofs.Common.{◌∙◌, sym, subst, arith}
use Rattle.std.specs.List.Sorted.{IsPermutation}
use Rattle.std.proofs.lemmas.Bool.{true≢false}
use Rattle.std.proofs.lemmas.Result.{err_from_is_err_and}
use Rattle.chains.specs.Reads.{OnlyReads}
use Rattle.chains.proofs.ReadLemmas.{reads_refl}
use Rattle.pagecache.specs.Cache.{fresh}
use Rattle.version1.specs.OldForm.{old_node_of}
use Rattle.treecheck.specs.Checking.{Agree}
use Rattle.treecheck.specs.Ordering.{IsSurveyWhole}
use Rattle.treecheck.specs.Walking.{pages_by}
use Rattle.treecheck.proofs.FindLemmas.{fails, gives, malformed}
use Rattle.treecheck.proofs.SurveyLemmas.{as_many}
use Rattle.version1.proofs.SurveyedLemmas.{held_whole}
use Rattle.version1.proofs.TakingLemmas.{surveyed}
use Rattle.version1.proofs.old_legs.survey_leaves.Given as given
use Rattle.version1.proofs.old_legs.survey_leaves.Goals.{After-walk_all}
use Rattle.version1.proofs.old_legs.survey_leaves.Goals as goal

-- up to the walk all was read of the store as it was
walked : (g : given.Over) (c : After-walk_all g) → OnlyReads (fresh (g.S.PageStore.seen c.args.store.now) 1) (fresh (g.S.PageStore.seen c.walk_all.new.source) 1)
walked g c = c.walk_all.ensures.reads.only

pub returns : goal.returns
returns g c =
    let first = fresh (g.S.PageStore.seen c.args.store.now) 1 in
    let survey = c.in_ok-survey.survey in
    let leaves = c.sort_leaves.new.leaves.items in
    gives first (fresh (g.S.PageStore.seen c.walk_all.new.source) 1) _ (walked g (goal.at.returns g c).After-walk_all) (λ fa.
    surveyed (pages_by old_node_of first) c.args.most c.args.rows c.args.tracks.now.legs c.args.places.now c.args.tracks.now.tracks survey leaves
    (c.in_ok-survey.ensures.found fa)
    (subst (λ n. IsSurveyWhole c.args.places.now n survey) c.leg_count-legs.ensures (c.is_whole.ensures.whole.0 c.if-not-is_whole.false))
    (subst (λ v. IsPermutation v.items leaves) c.is_whole.ensures.leaves c.sort_leaves.ensures.permutation)
    c.sort_leaves.ensures.rises)

pub returns-in_err-survey : goal.returns-in_err-survey
returns-in_err-survey g c =
    let p = err_from_is_err_and c.from_residual.result c.from_residual.ensures.1 in
    let first = fresh (g.S.PageStore.seen c.args.store.now) 1 in
    rw (p.1, p.2) (fails first first (fresh (g.S.PageStore.seen c.walk_all.new.source) 1) _ (reads_refl first) (λ fa held.
    let chains = held.2 in
    let many = as_many (pages_by old_node_of first) c.args.most c.args.rows 0 c.args.places.now c.args.tracks.now.tracks chains.chains chains.are_chains in
    let paired = held.0.paired in
    let few = held.0.few_names in
    (omega (arith, many, paired, few), chains.chains, chains.are_chains)) c.in_err-survey.ensures)

pub returns-then-not-is_whole : goal.returns-then-not-is_whole
returns-then-not-is_whole g c =
    let first = fresh (g.S.PageStore.seen c.args.store.now) 1 in
    malformed first (fresh (g.S.PageStore.seen c.walk_all.new.source) 1) 0 (walked g (goal.at.returns-then-not-is_whole g c).After-walk_all) (λ fa held.
    let survey = c.in_ok-survey.survey in
    let w = held_whole (pages_by old_node_of first) c.args.most c.args.rows c.args.tracks.now.legs c.args.places.now c.args.tracks.now.tracks survey held.1 (c.in_ok-survey.ensures.found fa) held.2 in
    true≢false (sym (c.is_whole.ensures.whole.1 (subst (λ n. IsSurveyWhole c.args.places.now n survey) (sym c.leg_count-legs.ensures) w)) ∙ c.if-not-is_whole.true))

pub returns-then-not-agree : goal.returns-then-not-agree
returns-then-not-agree g c =
    malformed (fresh (g.S.PageStore.seen c.args.store.now) 1) (fresh (g.S.PageStore.seen c.walk_all.new.source) 1) 0 (walked g (goal.at.returns-then-not-agree g c).After-walk_all) (λ fa held.
    true≢false (sym (c.agree.ensures.1 (subst (Agree c.args.tracks.now c.args.rows) (sym c.leg_count-legs.ensures) held.0)) ∙ c.if-not-agree.true))

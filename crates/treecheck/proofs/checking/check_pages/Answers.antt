use Rattle.std.proofs.Common.{ℕ, List, ◌≡◌, ◌<◌, sym, ap, ◌∙◌, subst, arith, slice_get, IsTrue}
use Rattle.std.specs.List.Sorted.{IsPermutation}
use Rattle.std.proofs.lemmas.Bool.{true≢false}
use Rattle.std.proofs.lemmas.List.Sorted.{IsPermutation-refl}
use Rattle.std.proofs.lemmas.Result.{err_from_is_err_and}
use Rattle.legs.specs.Boxes.{BoxView}
use Rattle.legs.specs.Legs.{LegView}
use Rattle.legs.specs.Tracks.{TracksView}
use Rattle.pagecache.specs.Cache.{Cache}
use Rattle.chains.specs.Reads.{OnlyReads}
use Rattle.chains.proofs.ReadLemmas.{reads_refl, reads_trans}
use Rattle.header.specs.Front.{SaysState}
use Rattle.tbtree.specs.Nodes.{Pages, pages_of_cache}
use Rattle.tbtree.specs.Turn.{IsRising}
use Rattle.tbtree.specs.declared.tree.Place.{Place}
use Rattle.tbtree.specs.declared.tree.TbTree.{TbTree}
use Rattle.treecheck.specs.Check.{AreChains, IsTreeOver}
use Rattle.treecheck.specs.Levels.{pages_of_leaves, AreInside, AreMet, StandsOver}
use Rattle.treecheck.specs.Ordering.{NameLast}
use Rattle.treecheck.specs.Walking.{Surveys}
use Rattle.treecheck.specs.declared.walking.Met.{Met}
use Rattle.treecheck.specs.declared.walking.Survey.{Survey}
use Rattle.treecheck.proofs.CheckingLemmas.{checked, order_same, order_strict, are_met, within, whole}
use Rattle.treecheck.proofs.FindLemmas.{fails, gives, malformed}
use Rattle.treecheck.proofs.OrderedPages.{order_of, IsOrder}
use Rattle.treecheck.proofs.SurveyLemmas.{as_many}
use Rattle.treecheck.proofs.WalkedLemmas.{as_after, as_before, same_pages}
use Rattle.treecheck.proofs.checking.check_pages.Given as given
use Rattle.treecheck.proofs.checking.check_pages.Goals.{After-check_state, After-check_tree, After-sort_leaves, After-walk_all, In_ok-check_tree, In_ok-survey}
use Rattle.treecheck.proofs.checking.check_pages.Goals as goal

-- up to page 0 all was read of the pages as they were
begun_reads : (g : given.Over) (c : After-check_state g) → OnlyReads c.args.cache.now c.check_state.new.cache
begun_reads g c = reads_trans c.args.cache.now c.read_pages.new.cache c.check_state.new.cache c.read_pages.ensures.reads.only c.check_state.ensures.reads.only

-- up to the leaves
walked_reads : (g : given.Over) (c : After-walk_all g) → OnlyReads c.args.cache.now c.walk_all.new.source
walked_reads g c = reads_trans c.args.cache.now c.check_state.new.cache c.walk_all.new.source
    (reads_trans c.args.cache.now c.read_pages.new.cache c.check_state.new.cache c.read_pages.ensures.reads.only c.check_state.ensures.reads.only) c.walk_all.ensures.reads.only

-- and up to the tree
tree_reads : (g : given.Over) (c : After-check_tree g) → OnlyReads c.args.cache.now c.walk_all.new.source → OnlyReads c.args.cache.now c.check_tree.new.cache
tree_reads g c walked = reads_trans c.args.cache.now c.walk_all.new.source c.check_tree.new.cache walked c.check_tree.ensures.reads.only

-- the survey is one of the pages as they were
surveyed : (g : given.Over) (c : In_ok-survey g) → IsTrue c.args.cache.now.store.is_faithful
    → Surveys (pages_of_cache c.args.cache.now) c.args.tree.now.shape.leaf c.args.rows c.args.places.now c.args.tracks.now.tracks c.in_ok-survey.survey
surveyed g c fa =
    let mid = c.check_state.new.cache in
    let reads = reads_trans c.args.cache.now c.read_pages.new.cache mid c.read_pages.ensures.reads.only c.check_state.ensures.reads.only in
    let of : Pages LegView BoxView → ℕ → Type 0 = λ nodes n. Surveys nodes n c.args.rows c.args.places.now c.args.tracks.now.tracks c.in_ok-survey.survey in
    subst (λ nodes. of nodes c.args.tree.now.shape.leaf) (same_pages c.args.cache.now mid reads fa)
    (subst (of (pages_of_cache mid)) (c.from-most.ensures ∙ c.leaf.ensures.value) (c.in_ok-survey.ensures.found (reads.store.faithful ∙ fa)))

-- what the leaves of a survey are, once they are in order, which is the only one that rises
record InOrder (old : Cache) (tree : TbTree) (rows : ℕ) (places : List Place) (tracks : TracksView) (survey : Survey) (leaves : List Met) : Type 0 where
  moved : IsPermutation survey.leaves.items leaves
  met : AreMet (pages_of_cache old) leaves
  inside : AreInside (pages_of_cache old) leaves
  order_is : (order : List ℕ) → IsOrder old tree rows places tracks order → pages_of_leaves leaves ≡ order
  rising : (order : List ℕ) → IsOrder old tree rows places tracks order → IsRising (λ (m : Met). m.first) leaves

in_order : (g : given.Over) (c : After-sort_leaves g) → Surveys (pages_of_cache c.args.cache.now) c.args.tree.now.shape.leaf c.args.rows c.args.places.now c.args.tracks.now.tracks c.in_ok-survey.survey
    → InOrder c.args.cache.now c.args.tree.now c.args.rows c.args.places.now c.args.tracks.now c.in_ok-survey.survey c.sort_leaves.new.leaves.items
in_order g c sv =
    let nodes = pages_of_cache c.args.cache.now in
    let tree = c.args.tree.now in
    let rows = c.args.rows in
    let total = c.args.legs in
    let places = c.args.places.now in
    let tracks = c.args.tracks.now.tracks in
    let survey = c.in_ok-survey.survey in
    let leaves = c.sort_leaves.new.leaves.items in
    let moved : IsPermutation survey.leaves.items leaves = subst (λ v. IsPermutation v.items leaves) c.is_whole.ensures.leaves c.sort_leaves.ensures.permutation in
    record {
      moved = moved;
      met = are_met nodes tree rows total places tracks survey leaves sv moved;
      inside = within nodes tree rows total places tracks survey leaves sv moved;
      order_is = λ order o. order_same nodes tree rows total places tracks survey leaves sv moved o.chains o.are_chains order o.ordered o.rises c.sort_leaves.ensures.rises;
      rising = λ order o. order_strict nodes tree rows total places tracks survey leaves sv moved o.chains o.are_chains order o.ordered o.rises c.sort_leaves.ensures.rises;
    }

-- where the way down is found, a tree stands over the leaves
stands : (g : given.Over) (c : In_ok-check_tree g) → IsTrue c.args.cache.now.store.is_faithful → OnlyReads c.args.cache.now c.walk_all.new.source
    → InOrder c.args.cache.now c.args.tree.now c.args.rows c.args.places.now c.args.tracks.now c.in_ok-survey.survey c.sort_leaves.new.leaves.items
    → StandsOver (pages_of_cache c.args.cache.now) c.args.tree.now (pages_of_leaves c.sort_leaves.new.leaves.items)
stands g c fa reads f =
    let value = c.as_slice-2.ensures.value in
    as_before _ _ reads fa _ _ value (λ nodes leaves. StandsOver nodes c.args.tree.now (pages_of_leaves leaves))
    (c.in_ok-check_tree.ensures.found (reads.store.faithful ∙ fa) (as_after _ _ reads fa _ _ value AreMet f.met) (as_after _ _ reads fa _ _ value AreInside f.inside))

pub returns-in_err-read_pages : goal.returns-in_err-read_pages
returns-in_err-read_pages g c =
    let p = err_from_is_err_and c.from_residual.result c.from_residual.ensures.1 in
    rw (p.1, p.2) (fails c.args.cache.now c.args.cache.now c.read_pages.new.cache _ (reads_refl c.args.cache.now) (λ fa w. (w.checked.page_0, w.count, w.checked.held)) c.in_err-read_pages.ensures)

pub returns-in_err-check_state : goal.returns-in_err-check_state
returns-in_err-check_state g c =
    let p = err_from_is_err_and c.from_residual-in_err-check_state.result c.from_residual-in_err-check_state.ensures.1 in
    let reads = c.read_pages.ensures.reads.only in
    rw (p.1, p.2) (fails c.args.cache.now c.read_pages.new.cache c.check_state.new.cache _ reads
    (λ fa w. (subst (λ n. 0 < n) (sym reads.count) w.checked.page_0, subst (SaysState c.args.begun) (sym (reads.payloads fa 0)) w.says)) c.in_err-check_state.ensures)

pub returns-in_err-survey : goal.returns-in_err-survey
returns-in_err-survey g c =
    let p = err_from_is_err_and c.from_residual-in_err-survey.result c.from_residual-in_err-survey.ensures.1 in
    let old = c.args.cache.now in
    let reads = begun_reads g (goal.at.returns-in_err-survey g c).After-check_state in
    let most = c.from-most.ensures ∙ c.leaf.ensures.value in
    let places = c.args.places.now in
    let tracks = c.args.tracks.now.tracks in
    rw (p.1, p.2) (fails old c.check_state.new.cache c.walk_all.new.source _ reads (λ fa w.
    let k = w.checked in
    let many = as_many (pages_of_cache old) c.args.tree.now.shape.leaf c.args.rows 0 places tracks k.chains k.are_chains in
    let paired = w.agree.paired in
    let few = w.agree.few_names in (
      omega (arith, many, paired, few),
      k.chains,
      subst (λ nodes. AreChains nodes c.from-most.result c.args.rows 0 places tracks k.chains) (sym (same_pages old c.check_state.new.cache reads fa))
          (subst (λ n. AreChains (pages_of_cache old) n c.args.rows 0 places tracks k.chains) (sym most) k.are_chains),
    )) c.in_err-survey.ensures)

pub returns-then-not-is_whole : goal.returns-then-not-is_whole
returns-then-not-is_whole g c =
    let at = goal.at.returns-then-not-is_whole g c in
    malformed c.args.cache.now c.walk_all.new.source 0 (walked_reads g at.After-walk_all) (λ fa w.
    let survey = c.in_ok-survey.survey in
    let h = whole (pages_of_cache c.args.cache.now) c.args.tree.now c.args.rows c.args.legs c.args.places.now c.args.tracks.now.tracks survey survey.leaves.items (surveyed g at.In_ok-survey fa) (IsPermutation-refl survey.leaves.items) w.checked in
    true≢false (sym (c.is_whole.ensures.whole.1 h) ∙ c.if-not-is_whole.true))

pub returns-then-not-agree : goal.returns-then-not-agree
returns-then-not-agree g c =
    malformed c.args.cache.now c.walk_all.new.source 0 (walked_reads g (goal.at.returns-then-not-agree g c).After-walk_all) (λ fa w. true≢false (sym (c.agree.ensures.1 w.agree) ∙ c.if-not-agree.true))

pub returns-then-not-leaves_rise : goal.returns-then-not-leaves_rise
returns-then-not-leaves_rise g c =
    let at = goal.at.returns-then-not-leaves_rise g c in
    malformed c.args.cache.now c.walk_all.new.source 0 (walked_reads g at.After-walk_all) (λ fa w.
    let k = w.checked in
    let ordered = in_order g at.After-sort_leaves (surveyed g at.In_ok-survey fa) in
    true≢false (sym (c.leaves_rise.ensures.1 (subst (IsRising (λ (m : Met). m.first)) (sym c.as_slice.ensures.value) (ordered.rising k.order (order_of _ _ _ _ _ _ k)))) ∙ c.if-not-leaves_rise.true))

pub returns-in_err-check_tree : goal.returns-in_err-check_tree
returns-in_err-check_tree g c =
    let p = err_from_is_err_and c.from_residual-in_err-check_tree.result c.from_residual-in_err-check_tree.ensures.1 in
    let at = goal.at.returns-in_err-check_tree g c in
    let reads = walked_reads g at.After-walk_all in
    let value = c.as_slice-2.ensures.value in
    rw (p.1, p.2) (fails c.args.cache.now c.walk_all.new.source c.check_tree.new.cache _ reads (λ fa w.
    let k = w.checked in
    let ordered = in_order g at.After-sort_leaves (surveyed g at.In_ok-survey fa) in
    let over = subst (λ order. IsTreeOver (pages_of_cache c.args.cache.now) c.args.tree.now order k.pages) (sym (ordered.order_is k.order (order_of _ _ _ _ _ _ k))) k.over in (
      as_after _ _ reads fa _ _ value AreMet ordered.met,
      as_after _ _ reads fa _ _ value (λ nodes leaves. StandsOver nodes c.args.tree.now (pages_of_leaves leaves)) (record { pages = k.pages; is_over = over }),
    )) c.in_err-check_tree.ensures)

pub returns-then-not-name_last : goal.returns-then-not-name_last
returns-then-not-name_last g c =
    let at = goal.at.returns-then-not-name_last g c in
    malformed c.args.cache.now c.check_tree.new.cache 0 (tree_reads g at.After-check_tree (walked_reads g at.After-walk_all)) (λ fa w.
    let k = w.checked in
    let ordered = in_order g at.After-sort_leaves (surveyed g at.In_ok-survey fa) in
    let last : NameLast c.args.places.now c.sort_leaves.new.leaves.items = λ f place e. ap (λ l. slice_get l place.last_index) (ordered.order_is k.order (order_of _ _ _ _ _ _ k)) ∙ k.last_index f place e in
    true≢false (sym (c.name_last.ensures.1 (subst (NameLast c.args.places.now) (sym c.as_slice-3.ensures.value) last)) ∙ c.if-not-name_last.true))

pub returns : goal.returns
returns g c =
    let at = goal.at.returns g c in
    let old = c.args.cache.now in
    let walked = walked_reads g at.After-walk_all in
    gives old c.check_tree.new.cache _ (tree_reads g at.After-check_tree walked) (λ fa.
    let sv = surveyed g at.In_ok-survey fa in
    let ordered = in_order g at.After-sort_leaves sv in
    let tree = stands g at.In_ok-check_tree fa walked ordered in
    let read = c.in_ok-read_pages.ensures.found fa in
    let reads = c.read_pages.ensures.reads.only in
    record {
      shape = c.leaf.ensures.range;
      count = read.1;
      says = subst (SaysState c.args.begun) (reads.payloads fa 0) (c.in_ok-check_state.ensures.found (reads.store.faithful ∙ fa)).1;
      checked = checked (pages_of_cache old) c.args.tree.now c.args.rows c.args.legs c.args.places.now c.args.tracks.now.tracks c.in_ok-survey.survey c.sort_leaves.new.leaves.items sv ordered.moved
          read.0 read.2 (c.is_whole.ensures.whole.0 c.if-not-is_whole.false)
          (subst (IsRising (λ (m : Met). m.first)) c.as_slice.ensures.value (c.leaves_rise.ensures.0 c.if-not-leaves_rise.false)) tree.pages tree.is_over
          (subst (NameLast c.args.places.now) c.as_slice-3.ensures.value (c.name_last.ensures.0 c.if-not-name_last.false));
      agree = c.agree.ensures.0 c.if-not-agree.false;
    })

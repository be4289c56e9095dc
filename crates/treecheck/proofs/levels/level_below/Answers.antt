use Rattle.std.proofs.Common.{suc, ◌≡◌, ◌+◌, ◌<◌, ◌≤◌, arith, sym, ap, ◌∙◌, Some, slice_get, get_or, subst, ⊎_elim}
use Rattle.std.proofs.lemmas.Bool.{cases_lt}
use Rattle.std.proofs.lemmas.Option.{slice_get-get_or, slice_get_within}
use Rattle.std.proofs.lemmas.Result.{err_from_is_err_and}
use Rattle.std.proofs.lemmas.List.{take_all}
use Rattle.std.specs.List.{flat_map}
use Rattle.legs.specs.Blocks.{block}
use Rattle.tbtree.specs.Nodes.{pages_of_cache}
use Rattle.chains.proofs.ReadLemmas.{reads_trans}
use Rattle.boxsearch.proofs.PushLemmas.{some_same}
use Rattle.boxsearch.proofs.SameLemmas.{flat_more}
use Rattle.treecheck.proofs.FindLemmas.{fails, gives}
use Rattle.treecheck.proofs.WalkedLemmas.{as_after, as_before, same_pages}
use Rattle.std.proofs.Common.{ℕ, List}
use Rattle.legs.specs.Boxes.{BoxView}
use Rattle.legs.specs.Legs.{LegView}
use Rattle.tbtree.specs.Nodes.{Pages}
use Rattle.treecheck.specs.declared.walking.Met.{Met}
use Rattle.treecheck.specs.Levels.{named_by, StandsAbove}
use Rattle.treecheck.proofs.levels.level_below.Given as given
use Rattle.treecheck.proofs.levels.level_below.Goals.{After-block-under}
use Rattle.treecheck.proofs.levels.level_below.Goals as goal

-- the page that is read
abbrev asked : (g : given.Over) → After-block-under g → ℕ
asked g c = get_or c.args.pages.now c.loop-i.i 0

is_asked : (g : given.Over) (c : After-block-under g) → slice_get c.args.pages.now c.loop-i.i ≡ Some (asked g c)
is_asked g c = slice_get-get_or c.args.pages.now c.loop-i.i 0 c.loop-i-test.true

-- that it stands above some leaves of some pages
abbrev IsOver : (g : given.Over) → After-block-under g → Pages LegView BoxView → List Met → Type 0
IsOver g c nodes under = StandsAbove nodes c.args.level c.args.width under (asked g c)

pub loop-i-preserved : goal.loop-i-preserved
loop-i-preserved g c =
    let before = (goal.at.loop-i-preserved g c).After-block-under in
    let old = c.args.cache.now in
    let pages = c.args.pages.now in
    let i = c.loop-i.i in
    let inv = c.loop-i.invariant in
    let page = asked g before in
    record {
      reads = reads_trans old c.loop-i.cache c.take_page.new.cache inv.reads c.take_page.ensures.reads.only;
      named = λ fa.
          let next : i + 1 ≡ suc i = omega arith in
          flat_more (named_by (pages_of_cache old)) pages i (i + 1) page c.loop-i.below.items c.take_page.new.below.items (named_by (pages_of_cache c.loop-i.cache) page) (is_asked g before) next
          (ap (λ nodes. named_by nodes page) (same_pages old c.loop-i.cache inv.reads fa)) ((c.in_ok-take_page.ensures.found (inv.reads.store.faithful ∙ fa)).1) (inv.named fa);
      above = λ fa j p l e.
          let here = as_before _ _ inv.reads fa _ _ c.block-under.ensures (IsOver g before) ((c.in_ok-take_page.ensures.found (inv.reads.store.faithful ∙ fa)).0) in
          ⊎_elim
          (λ (k : j < i). inv.above fa j p k e)
          (λ (k : i ≤ j).
          let s : i ≡ j = omega (arith, k, l) in
          let q : page ≡ p = some_same page p (sym (is_asked g before) ∙ ap (slice_get pages) s ∙ e) in
          subst (λ p. StandsAbove (pages_of_cache old) c.args.level c.args.width (block c.args.span j c.args.leaves.now) p) q
          (subst (λ i. StandsAbove (pages_of_cache old) c.args.level c.args.width (block c.args.span i c.args.leaves.now) page) s here))
          (cases_lt j i);
    }

pub returns-in_err-take_page : goal.returns-in_err-take_page
returns-in_err-take_page g c =
    let p = err_from_is_err_and c.from_residual.result c.from_residual.ensures.1 in
    let before = (goal.at.returns-in_err-take_page g c).After-block-under in
    let inv = c.loop-i.invariant in
    rw (p.1, p.2) (fails c.args.cache.now c.loop-i.cache c.take_page.new.cache _ inv.reads
    (λ fa all. as_after _ _ inv.reads fa _ _ c.block-under.ensures (IsOver g before) (all c.loop-i.i (asked g before) (is_asked g before))) c.in_err-take_page.ensures)

pub returns : goal.returns
returns g c =
    let inv = c.loop-i.invariant in
    gives c.args.cache.now c.loop-i.cache c.loop-i.below inv.reads (λ fa. (
      λ j p e. (let w = slice_get_within c.args.pages.now j p e in inv.above fa j p (omega (arith, w, c.loop-i-test.false)) e),
      inv.named fa ∙ ap (flat_map (named_by (pages_of_cache c.args.cache.now))) (take_all c.loop-i.i c.args.pages.now c.loop-i-test.false),
    ))

use Rattle.std.proofs.Common.{ℕ, List, suc, ◌≡◌, ◌+◌, ◌-◌, ◌/◌, ◌^◌, ◌<◌, ◌≤◌, arith, refl, sym, ap, ◌∙◌, subst, ⊎_elim, IsTrue}
use Rattle.std.proofs.lemmas.Bool.{cases_lt}
use Rattle.std.proofs.lemmas.Result.{err_from_is_err_and}
use Rattle.std.specs.List.{flat_map}
use Rattle.tbtree.specs.Nodes.{pages_of_cache}
use Rattle.chains.proofs.ReadLemmas.{reads_trans}
use Rattle.treecheck.proofs.FindLemmas.{fails, gives}
use Rattle.treecheck.proofs.WalkedLemmas.{same_pages}
use Rattle.treecheck.proofs.SpanLemmas.{Level, level_at, span_down, width_above, level_is}
use Rattle.treecheck.specs.Levels.{named_by, named_below, AllStandAbove}
use Rattle.treecheck.specs.declared.walking.Met.{Met}
use Rattle.tbtree.specs.Nodes.{Pages}
use Rattle.legs.specs.Boxes.{BoxView}
use Rattle.legs.specs.Legs.{LegView}
use Rattle.treecheck.proofs.levels.check_levels.Given as given
use Rattle.treecheck.proofs.levels.check_levels.Goals.{After-deref}
use Rattle.treecheck.proofs.levels.check_levels.Goals as goal

pub level_below-requires : goal.level_below-requires
level_below-requires g c = width_above c.args.inner c.args.height c.loop-level.level c.loop-level.span c.requires.inner c.loop-level-test.true c.loop-level.invariant.span

-- the level that is read
abbrev read_level : (g : given.Over) (c : After-deref g) → Level
read_level g c = level_at (c.args.height - c.loop-level.level) (c.loop-level.span / c.args.inner) c.loop-level.span c.deref.result.now

-- it is, of the pages as they were, the one that n and k say
level_read : (g : given.Over) (c : After-deref g) → IsTrue c.args.cache.now.store.is_faithful → (k n : ℕ) → n + suc k ≡ c.args.height → n ≡ c.loop-level.level
    → read_level g c ≡ level_at (suc k) (c.args.inner ^ k) (c.args.inner ^ suc k) (named_below (pages_of_cache c.args.cache.now) c.args.root n)
level_read g c fa k n e s =
    level_is (pages_of_cache c.args.cache.now) c.args.inner c.args.height c.loop-level.level c.loop-level.span c.args.root c.deref.result.now k n c.requires.inner e s c.loop-level.invariant.span (c.deref.ensures.value ∙ c.loop-level.invariant.pages fa)

-- so many levels are below it
abbrev below : ℕ → ℕ → ℕ
below height level = height - (level + 1)

abbrev AreAbove : Pages LegView BoxView → List Met → Level → Type 0
AreAbove nodes leaves level = AllStandAbove nodes level.height level.width level.span leaves level.pages

pub returns-in_err-pages : goal.returns-in_err-pages
returns-in_err-pages g c =
    let p = err_from_is_err_and c.from_residual-in_err-pages.result c.from_residual-in_err-pages.ensures.1 in
    let old = c.args.cache.now in
    let inv = c.loop-level.invariant in
    let level = c.loop-level.level in
    let n : level + suc (below c.args.height level) ≡ c.args.height = omega (arith, c.loop-level-test.true) in
    let before = (goal.at.returns-in_err-pages g c).After-deref in
    rw (p.1, p.2) (fails old c.loop-level.cache c.level_below.new.cache _ inv.reads (λ fa all.
    let here = subst (AreAbove (pages_of_cache old) c.args.leaves.now) (sym (level_read g before fa (below c.args.height level) level n refl)) (all (below c.args.height level) level n) in
    subst (λ nodes. AreAbove nodes c.args.leaves.now (read_level g before)) (sym (same_pages old c.loop-level.cache inv.reads fa)) here) c.in_err-pages.ensures)

pub loop-level-preserved : goal.loop-level-preserved
loop-level-preserved g c =
    let old = c.args.cache.now in
    let nodes = pages_of_cache old in
    let inv = c.loop-level.invariant in
    let level = c.loop-level.level in
    record {
      reads = reads_trans old c.loop-level.cache c.level_below.new.cache inv.reads c.level_below.ensures.reads.only;
      span = span_down c.args.inner c.args.height level c.loop-level.span c.requires.inner c.loop-level-test.true inv.span;
      pages = λ fa.
          let same = same_pages old c.loop-level.cache inv.reads fa in
          let next : suc level ≡ level + 1 = omega arith in
          (c.in_ok-pages.ensures.found (inv.reads.store.faithful ∙ fa)).1
          ∙ ap (λ nodes. flat_map (named_by nodes) c.deref.result.now) same
          ∙ ap (flat_map (named_by nodes)) (c.deref.ensures.value ∙ inv.pages fa)
          ∙ ap (named_below nodes c.args.root) next;
      above = λ fa k n e l.
          ⊎_elim
          (λ (b : n < level). inv.above fa k n e b)
          (λ (b : level ≤ n).
          let before = (goal.at.loop-level-preserved g c).After-deref in
          subst (AreAbove nodes c.args.leaves.now) (level_read g before fa k n e (omega (arith, b, l)))
          (subst (λ nodes. AreAbove nodes c.args.leaves.now (read_level g before)) (same_pages old c.loop-level.cache inv.reads fa) ((c.in_ok-pages.ensures.found (inv.reads.store.faithful ∙ fa)).0)))
          (cases_lt n level);
    }

pub returns : goal.returns
returns g c =
    gives c.args.cache.now c.loop-level.cache _ c.loop-level.invariant.reads (λ fa k n e. c.loop-level.invariant.above fa k n e (omega (arith, e, c.loop-level-test.false)))

use Rattle.std.proofs.Common.{ℕ, suc, ◌≡◌, ◌≢◌, ◌-◌, ◌<◌, ◌≤◌, List, length, Some, slice_get, arith, sym, ap, ◌∙◌, subst}
use Rattle.std.proofs.lemmas.Bool.{true≢false}
use Rattle.tbtree.specs.Nodes.{pages_of_cache}
use Rattle.treecheck.specs.Levels.{pages_of_leaves, IsHeight, LevelsStandAbove}
use Rattle.treecheck.specs.declared.walking.Met.{Met}
use Rattle.tbtree.specs.declared.tree.TbTree.{TbTree}
use Rattle.treecheck.proofs.LevelsLemmas.{first_leaf}
use Rattle.boxsearch.proofs.ResultLemmas.{on_ok}
use Rattle.chains.proofs.ReadLemmas.{reads_refl}
use Rattle.treecheck.proofs.FindLemmas.{gives, malformed}
use Rattle.treecheck.proofs.StandLemmas.{stands_over, stands_empty, height_of, levels_of}
use Rattle.treecheck.proofs.levels.check_tree.Given as given
use Rattle.treecheck.proofs.levels.check_tree.Goals as goal
use Rattle.treecheck.proofs.levels.check_tree.Goals.{else-height-eq0-via-then-height-eq0+else-leaves-tree, else-height-eq0-via-else-height-eq0}

-- what is so of a tree that has levels and is of so many leaves
record HasLevels (tree : TbTree) (leaves : List Met) (inner : ℕ) : Type 0 where
  levels_are : tree.levels ≡ suc (tree.levels - 1)
  inner_is : inner ≡ tree.shape.inner
  some : 0 < tree.shape.inner
  leaves_are : tree.leaves ≡ length leaves

has_levels : (tree : TbTree) (leaves : List Met) (inner : ℕ) → tree.levels ≢ 0 → inner ≡ tree.shape.inner → 2 ≤ tree.shape.inner → tree.leaves ≡ length leaves → HasLevels tree leaves inner
has_levels tree leaves inner levels is least are = record { levels_are = omega (arith, levels); inner_is = is; some = omega (arith, least); leaves_are = are }

-- it is as high as its leaves want, and a single leaf is its root
record IsHigh (tree : TbTree) (leaves : List Met) (inner : ℕ) : Type 0 where
  has : HasLevels tree leaves inner
  high : IsHeight tree.shape.inner (length leaves) (tree.levels - 1)
  top : tree.levels - 1 ≡ 0 → slice_get (pages_of_leaves leaves) 0 ≡ Some tree.root

is_high : (g : given.Over) (c : goal.After-check_levels g) → IsHigh c.args.tree.now c.args.leaves.now c.from-inner.result
is_high g c =
    let tree = c.args.tree.now in
    let leaves = c.args.leaves.now in
    let h = tree.levels - 1 in
    let has = has_levels tree leaves c.from-inner.result c.if-tree-eq0.false (c.from-inner.ensures ∙ c.inner.ensures.value) c.inner.ensures.range.least_inner (sym (c.if-leaves-from.false ∙ c.from.ensures)) in
    let high : IsHeight tree.shape.inner (length leaves) h = subst (λ n. IsHeight n (length leaves) h) has.inner_is c.in-Some.ensures.height in
    record {
      has = has;
      high = high;
      top = elim c.else-height-eq0.branch [
        | else-height-eq0-via-then-height-eq0+else-leaves-tree w ↦ λ z. first_leaf leaves w.index-leaves-0.result tree.root high.some w.index-leaves-0.is (ap (λ (m : Met). m.page) w.index-leaves-0.is ∙ w.if-leaves-tree.false)
        | else-height-eq0-via-else-height-eq0 w ↦ λ z. absurd (w.if-height-eq0.false z)
      ];
    }

pub returns : goal.returns
returns g c =
    let nodes = pages_of_cache c.args.cache.now in
    let tree = c.args.tree.now in
    let leaves = c.args.leaves.now in
    let h = tree.levels - 1 in
    let k = is_high g c in
    record {
      found = λ fa. on_ok c.check_levels.result
          (λ stand met within. stands_over nodes tree leaves h k.has.levels_are k.has.some k.has.leaves_are met k.high k.top (subst (λ n. LevelsStandAbove nodes n h tree.root leaves) k.has.inner_is stand) within)
          (c.check_levels.ensures.found fa);
      only = λ fa so. c.check_levels.ensures.only fa (subst (λ n. LevelsStandAbove nodes n h tree.root leaves) (sym k.has.inner_is) (levels_of nodes tree leaves h k.has.levels_are k.has.some k.has.leaves_are so.0 so.1.pages so.1.is_over));
      reads = c.check_levels.ensures.reads;
    }

pub returns-then-tree-eq0 : goal.returns-then-tree-eq0
returns-then-tree-eq0 g c =
    gives c.args.cache.now c.args.cache.now _ (reads_refl c.args.cache.now) (λ fa met within.
    stands_empty (pages_of_cache c.args.cache.now) c.args.tree.now c.args.leaves.now (sym (c.if-leaves-from.false ∙ c.from.ensures)) c.if-tree-eq0.true c.if-tree-ne0.false c.if-tree-ne0-2.false)

pub returns-in_default : goal.returns-in_default
returns-in_default g c =
    malformed c.args.cache.now c.args.cache.now 0 (reads_refl c.args.cache.now) (λ fa so.
    let tree = c.args.tree.now in
    let leaves = c.args.leaves.now in
    let h = tree.levels - 1 in
    let k = has_levels tree leaves c.from-inner.result c.if-tree-eq0.false (c.from-inner.ensures ∙ c.inner.ensures.value) c.inner.ensures.range.least_inner (sym (c.if-leaves-from.false ∙ c.from.ensures)) in
    let high = height_of (pages_of_cache c.args.cache.now) tree leaves h k.levels_are k.some k.leaves_are so.0 so.1.pages so.1.is_over in
    true≢false (sym (c.in_default.ensures.none (subst (λ n. IsHeight n (length leaves) h) (sym k.inner_is) high))))

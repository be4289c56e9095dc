use Rattle.std.proofs.Common.{ℕ, ◌≡◌, ◌+◌, ◌-◌, ◌<◌, [], ◌∷◌, List, length, rules, suc, arith, ap, subst, ◌∙◌, All, IsTrue}
use Rattle.std.specs.List.{flat_map}
use Rattle.std.proofs.lemmas.List.Sorted.{IsNonDecreasingBy-from_sort_by_key}
use Rattle.std.proofs.lemmas.Result.{err_from_is_err_and}
use Rattle.legs.specs.Hull.{leg_boxes}
use Rattle.tbtree.specs.Descent.{children_met, hits, legs_met, pages_met, met_count, HasInner}
use Rattle.tbtree.specs.Faults.{IfNamed}
use Rattle.tbtree.specs.Nodes.{pages_of_cache, HasLeaf}
use Rattle.boxsearch.specs.Way.{meets, IsOneNot, IsOffWay}
use Rattle.boxsearch.proofs.FoundLemmas.{in_order, none_met}
use Rattle.chains.proofs.ReadLemmas.{caused_after, reads_refl, reads_trans}
use Rattle.tbtree.proofs.FaultLemmas.{named_then}
use Rattle.boxsearch.proofs.SameLemmas.{as_before}
use Rattle.boxsearch.proofs.WayLemmas.{FitsTo, malformed_caused, root_alone, level_down, level_legs, counted, inner_level, level_inner, all_fit, one_off_way, many_off_way, fits_more, way_none, way_whole, malformed_is}
use Rattle.boxsearch.proofs.descent.collected.Given as given
use Rattle.boxsearch.proofs.descent.collected.Goals.{After-deref, After-deref-in-loop-level-2}
use Rattle.boxsearch.proofs.descent.collected.Goals as goal

-- the first page is the root
rooted : (g : given.Over) (c : After-deref g) → c.deref.result.now ≡ c.args.tree.now.root ∷ []
rooted g c = root_alone c.deref.result.now c.push.new.self.items c.new-pages.result.items c.args.tree.now.root c.deref.ensures.value c.in_ok-push.ensures.items c.new-pages.ensures.items

-- the pages of the next level are those that are met there
next_met : (g : given.Over) (c : After-deref-in-loop-level-2 g) → IsTrue c.args.cache.now.store.is_faithful → c.in_ok-pages.pages.items ≡ pages_met (meets c.args.query.now) (pages_of_cache c.args.cache.now) c.args.tree.now.root c.loop-level.level
next_met g c fa =
    level_down c.args.query.now (pages_of_cache c.args.cache.now) c.args.tree.now.root c.args.tree.now.levels (c.loop-level.level - 1) c.loop-level.level c.deref-in-loop-level.result.now c.in_ok-pages.pages.items (omega arith) (c.deref-in-loop-level.ensures.value ∙ c.loop-level.invariant.found fa)
    (as_before c.args.cache.now c.loop-level.cache c.loop-level.invariant.reads (λ nodes. c.in_ok-pages.pages.items ≡ flat_map (children_met (meets c.args.query.now) nodes) c.deref-in-loop-level.result.now) c.in_ok-pages.ensures.found fa)

-- each level down to there fits
level_fits : (g : given.Over) (c : After-deref-in-loop-level-2 g) → IsTrue c.args.cache.now.store.is_faithful → FitsTo c.args.query.now (pages_of_cache c.args.cache.now) c.args.tree.now.root c.args.tree.now.levels c.loop-level.level
level_fits g c fa =
    let inv = c.loop-level.invariant in
    let query = c.args.query.now in
    let nodes = pages_of_cache c.args.cache.now in
    let root = c.args.tree.now.root in
    let levels = c.args.tree.now.levels in
    let n = c.loop-level.level - 1 in
    let k = levels - c.loop-level.level in
    let some : 0 < k = omega (arith, c.loop-level-test.true) in
    let deep : n + suc k ≡ levels = omega (arith, c.loop-level-test.true) in
    let now = c.deref-in-loop-level.result.now in
    fits_more query nodes root levels n k c.loop-level.level deep (omega arith)
    (all_fit query nodes root levels (λ p. HasInner nodes p k) n k now (λ p. inner_level query nodes root levels k p some) (c.deref-in-loop-level.ensures.value ∙ inv.found fa)
    (as_before c.args.cache.now c.loop-level.cache inv.reads (λ nodes. All (λ p. HasInner nodes p k) now) c.in_ok-pages.ensures.way fa))
    (inv.way fa)

pub loop-level-preserved : goal.loop-level-preserved
loop-level-preserved g c =
    let nodes = pages_of_cache c.args.cache.now in
    let query = c.args.query.now in
    let level = c.loop-level.level in
    let now = c.deref-in-loop-level.result.now in
    let below = c.deref-in-loop-level-2.result.now in
    let inv = c.loop-level.invariant in
    let before = (goal.at.loop-level-preserved g c).After-deref-in-loop-level-2 in
    let up : level + 1 - 1 ≡ suc (level - 1) = omega arith in
    let here : level ≡ level + 1 - 1 = omega arith in
    let after : level + 1 ≡ suc level = omega arith in
    let one : length now ≡ length c.loop-level.pages.items = ap (λ (l : List ℕ). length l) c.deref-in-loop-level.ensures.value in
    let other : length below ≡ length c.in_ok-pages.pages.items = ap (λ (l : List ℕ). length l) c.deref-in-loop-level-2.ensures.value in
    record {
      reads = reads_trans c.args.cache.now c.loop-level.cache c.next_level.new.cache inv.reads c.next_level.ensures.reads.only;
      found = λ fa. next_met g before fa ∙ ap (pages_met (meets query) nodes c.args.tree.now.root) here;
      way = λ fa. subst (FitsTo query nodes c.args.tree.now.root c.args.tree.now.levels) here (level_fits g before fa);
      asked = λ fa less.
          let more = c.in_ok-pages.ensures.asked less in
          let so_far = inv.asked fa (omega (arith, more, less)) in
          let all = counted query nodes c.args.tree.now.root c.args.tree.now.levels (level - 1) (level + 1 - 1) now up (c.deref-in-loop-level.ensures.value ∙ inv.found fa) in
          omega (arith, more, so_far, all);
      left = λ fa.
          let all = counted query nodes c.args.tree.now.root c.args.tree.now.levels level (level + 1) below after (c.deref-in-loop-level-2.ensures.value ∙ next_met g before fa) in
          let so_far = inv.left fa in
          let spent = c.in_ok-spend-2.ensures.ok in
          omega (arith, so_far, spent, all);
      most = let spent = c.in_ok-spend-2.ensures.ok in omega (arith, c.next_level.ensures.most, inv.most, spent, one, other);
    }

pub returns-then-tree-eq0 : goal.returns-then-tree-eq0
returns-then-tree-eq0 g c =
    let query = c.args.query.now in
    let nodes = pages_of_cache c.args.cache.now in
    let root = c.args.tree.now.root in
    let levels = c.args.tree.now.levels in
    record {
      met = λ fa. none_met query nodes root levels c.new.result.items c.if-tree-eq0.true c.new.ensures.items;
      way = λ fa. way_none query nodes root levels c.if-tree-eq0.true;
      named = λ fa. tt;
      asked = λ fa less. let none = ap (met_count (meets query) nodes root) c.if-tree-eq0.true in omega (arith, none);
      most = omega arith;
      reads = reads_refl c.args.cache.now;
      caused = λ works. tt;
    }

pub returns-in_err-push : goal.returns-in_err-push
returns-in_err-push g c = record {
  met = λ fa. search rules;
  way = λ fa. search rules;
  named = λ fa. search rules;
  asked = λ fa. search rules;
  most = omega arith;
  reads = reads_refl c.args.cache.now;
  caused = λ works. search rules;
}

pub returns-in_err-spend : goal.returns-in_err-spend
returns-in_err-spend g c =
    let p = err_from_is_err_and c.from_residual-in_err-spend.result c.from_residual-in_err-spend.ensures.1 in
    let query = c.args.query.now in
    let nodes = pages_of_cache c.args.cache.now in
    let root = c.args.tree.now.root in
    let levels = c.args.tree.now.levels in
    let e = c.in_err-spend.ensures.err in
    let last : 0 + suc (levels - 1) ≡ levels = omega (arith, c.if-tree-eq0.false) in
    let many : nodes.count < met_count (meets query) nodes root 0 + length c.deref.result.now = omega (arith, e.0, c.count.ensures.value) in
    let off : IsOffWay query nodes root levels e.1 = many_off_way query nodes root levels 0 (levels - 1) c.count.result e.1 c.deref.result.now last (rooted g (goal.at.returns-in_err-spend g c).After-deref) e.2 many in
    rw (p.1, p.2) (record {
      met = λ fa. tt;
      way = λ fa. tt;
      named = λ fa. malformed_is (IsOffWay query nodes root levels) _ e.1 e.3 off;
      asked = λ fa. tt;
      most = omega arith;
      reads = reads_refl c.args.cache.now;
      caused = λ works. malformed_caused c.args.cache.now c.args.cache.now _ e.1 e.3;
    })

pub returns-in_err-pages : goal.returns-in_err-pages
returns-in_err-pages g c =
    let p = err_from_is_err_and c.from_residual-in_err-pages.result c.from_residual-in_err-pages.ensures.1 in
    let old = c.args.cache.now in
    let inv = c.loop-level.invariant in
    let query = c.args.query.now in
    let nodes = pages_of_cache old in
    let root = c.args.tree.now.root in
    let levels = c.args.tree.now.levels in
    let n = c.loop-level.level - 1 in
    let k = levels - c.loop-level.level in
    let some : 0 < k = omega (arith, c.loop-level-test.true) in
    let last : n + suc k ≡ levels = omega (arith, c.loop-level-test.true) in
    let now = c.deref-in-loop-level.result.now in
    let many : length now ≡ length c.loop-level.pages.items = ap (λ (l : List ℕ). length l) c.deref-in-loop-level.ensures.value in
    rw (p.1, p.2) (record {
      met = λ fa. tt;
      way = λ fa. tt;
      named = λ fa.
          named_then (IsOneNot (λ q. HasInner nodes q k) now) (IsOffWay query nodes root levels)
          (λ q h. one_off_way query nodes root levels (λ q. HasInner nodes q k) n k q now last (c.deref-in-loop-level.ensures.value ∙ inv.found fa) (λ q. level_inner query nodes root levels k q some) h) _
          (as_before old c.loop-level.cache inv.reads (λ nodes. IfNamed (IsOneNot (λ q. HasInner nodes q k) now) c.in_err-pages.field-0.0) c.in_err-pages.ensures.named fa);
      asked = λ fa. tt;
      most = omega (arith, c.next_level.ensures.most, inv.most, many);
      reads = reads_trans old c.loop-level.cache c.next_level.new.cache inv.reads c.in_err-pages.ensures.reads.only;
      caused = λ works. caused_after old c.loop-level.cache c.next_level.new.cache c.in_err-pages.field-0.0 inv.reads c.in_err-pages.ensures.reads.caused;
    })

pub returns-in_err-spend-2 : goal.returns-in_err-spend-2
returns-in_err-spend-2 g c =
    let p = err_from_is_err_and c.from_residual-in_err-spend-2.result c.from_residual-in_err-spend-2.ensures.1 in
    let before = (goal.at.returns-in_err-spend-2 g c).After-deref-in-loop-level-2 in
    let old = c.args.cache.now in
    let inv = c.loop-level.invariant in
    let query = c.args.query.now in
    let nodes = pages_of_cache old in
    let root = c.args.tree.now.root in
    let levels = c.args.tree.now.levels in
    let level = c.loop-level.level in
    let e = c.in_err-spend-2.ensures.err in
    let k = levels - level - 1 in
    let last : level + suc k ≡ levels = omega (arith, c.loop-level-test.true) in
    let below = c.deref-in-loop-level-2.result.now in
    let many : length c.deref-in-loop-level.result.now ≡ length c.loop-level.pages.items = ap (λ (l : List ℕ). length l) c.deref-in-loop-level.ensures.value in
    rw (p.1, p.2) (record {
      met = λ fa. tt;
      way = λ fa. tt;
      named = λ fa.
          let so_far = inv.left fa in
          malformed_is (IsOffWay query nodes root levels) _ e.1 e.3
          (many_off_way query nodes root levels level k c.loop-level.left e.1 below last (c.deref-in-loop-level-2.ensures.value ∙ next_met g before fa) e.2 (omega (arith, so_far, e.0)));
      asked = λ fa. tt;
      most = omega (arith, c.next_level.ensures.most, inv.most, many);
      reads = reads_trans old c.loop-level.cache c.next_level.new.cache inv.reads c.next_level.ensures.reads.only;
      caused = λ works. malformed_caused old c.next_level.new.cache _ e.1 e.3;
    })

pub returns-in_err-found : goal.returns-in_err-found
returns-in_err-found g c =
    let p = err_from_is_err_and c.from_residual-in_err-found.result c.from_residual-in_err-found.ensures.1 in
    let old = c.args.cache.now in
    let inv = c.loop-level.invariant in
    let query = c.args.query.now in
    let nodes = pages_of_cache old in
    let root = c.args.tree.now.root in
    let levels = c.args.tree.now.levels in
    let n = c.loop-level.level - 1 in
    let now = c.deref-2.result.now in
    let last : n + 1 ≡ levels = omega (arith, c.loop-level-test.false, c.if-tree-eq0.false) in
    let many : length now ≡ length c.loop-level.pages.items = ap (λ (l : List ℕ). length l) c.deref-2.ensures.value in
    rw (p.1, p.2) (record {
      met = λ fa. tt;
      way = λ fa. tt;
      named = λ fa.
          named_then (IsOneNot (λ q. HasLeaf nodes q) now) (IsOffWay query nodes root levels)
          (λ q h. one_off_way query nodes root levels (λ q. HasLeaf nodes q) n 0 q now last (c.deref-2.ensures.value ∙ inv.found fa) (λ q h. h) h) _
          (as_before old c.loop-level.cache inv.reads (λ nodes. IfNamed (IsOneNot (λ q. HasLeaf nodes q) now) c.in_err-found.field-0.0) c.in_err-found.ensures.named fa);
      asked = λ fa. tt;
      most = omega (arith, c.legs_in.ensures.most, inv.most, many);
      reads = reads_trans old c.loop-level.cache c.legs_in.new.cache inv.reads c.in_err-found.ensures.reads.only;
      caused = λ works. caused_after old c.loop-level.cache c.legs_in.new.cache c.in_err-found.field-0.0 inv.reads c.in_err-found.ensures.reads.caused;
    })

pub returns-in_err-sort_by_key : goal.returns-in_err-sort_by_key
returns-in_err-sort_by_key g c =
    let inv = c.loop-level.invariant in
    let many : length c.deref-2.result.now ≡ length c.loop-level.pages.items = ap (λ (l : List ℕ). length l) c.deref-2.ensures.value in
    record {
      met = λ fa. search rules;
      way = λ fa. search rules;
      named = λ fa. search rules;
      asked = λ fa. search rules;
      most = omega (arith, c.legs_in.ensures.most, inv.most, many);
      reads = reads_trans c.args.cache.now c.loop-level.cache c.legs_in.new.cache inv.reads c.in_ok-found.ensures.reads.only;
      caused = λ works. search rules;
    }

pub returns : goal.returns
returns g c =
    let old = c.args.cache.now in
    let inv = c.loop-level.invariant in
    let query = c.args.query.now in
    let nodes = pages_of_cache old in
    let root = c.args.tree.now.root in
    let levels = c.args.tree.now.levels in
    let now = c.deref-2.result.now in
    let n = c.loop-level.level - 1 in
    let last : levels ≡ suc n = omega (arith, c.loop-level-test.false, c.if-tree-eq0.false) in
    let deep : n + 1 ≡ levels = omega (arith, last) in
    let here : c.loop-level.level ≡ levels = omega (arith, c.loop-level-test.false, c.if-tree-eq0.false) in
    let many : length now ≡ length c.loop-level.pages.items = ap (λ (l : List ℕ). length l) c.deref-2.ensures.value in
    let found = c.in_ok-found.found.items in
    record {
      met = λ fa.
          in_order (legs_met leg_boxes (meets query) nodes root levels) found c.sort_by_key.new.self.items
          (level_legs query nodes root levels n now found last (c.deref-2.ensures.value ∙ inv.found fa)
          (as_before old c.loop-level.cache inv.reads (λ nodes. found ≡ flat_map (hits leg_boxes (meets query) nodes) now) c.in_ok-found.ensures.found fa))
          c.in_ok-sort_by_key.ensures.permutation (IsNonDecreasingBy-from_sort_by_key (λ l. l.ordinal) _ c.in_ok-sort_by_key.ensures.sorted (λ a r q k. search rules));
      way = λ fa.
          let all = as_before old c.loop-level.cache inv.reads (λ nodes. All (λ p. HasLeaf nodes p) now) c.in_ok-found.ensures.way fa in
          let leaves = all_fit query nodes root levels (λ p. HasLeaf nodes p) n 0 now (λ p h. h) (c.deref-2.ensures.value ∙ inv.found fa) all in
          way_whole query nodes root levels c.loop-level.left c.loop-level.level here (fits_more query nodes root levels n 0 levels deep last leaves (inv.way fa)) (inv.left fa);
      named = λ fa. tt;
      asked = λ fa less.
          let rise = c.in_ok-found.ensures.asked less in
          let so_far = inv.asked fa (omega (arith, rise, less)) in
          let all = counted query nodes root levels n levels now last (c.deref-2.ensures.value ∙ inv.found fa) in
          omega (arith, rise, so_far, all);
      most = omega (arith, c.legs_in.ensures.most, inv.most, many);
      reads = reads_trans old c.loop-level.cache c.legs_in.new.cache inv.reads c.in_ok-found.ensures.reads.only;
      caused = λ works. tt;
    }

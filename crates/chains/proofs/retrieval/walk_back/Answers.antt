use Rattle.std.proofs.Common.{ℕ, true, false, IsTrue, rules, ◌≡◌, ◌+◌, ◌-◌, suc, arith, ap, subst, sym, ◌∙◌, drop, inl, inr, Some, None}
use Rattle.std.proofs.lemmas.Result.{err_from_is_err_and}
use Rattle.std.specs.Int.{div_ceil}
use Rattle.legs.specs.Boxes.{BoxView}
use Rattle.legs.specs.Legs.{LegView}
use Rattle.tbtree.specs.Nodes.{Pages, pages_of_cache}
use Rattle.tbtree.proofs.FaultLemmas.{named_then}
use Rattle.chains.specs.Chains.{IsChain, IsOffChain, IsOffPlaceChain, last_link, walk, walked}
use Rattle.chains.specs.Links.{FitsLeaf, IsLinked, IsUnlinked, is_end, link_back, spot_of}
use Rattle.chains.specs.Spans.{AreSpans, IsKnown}
use Rattle.chains.specs.Taking.{TakesLeaf, TakesPage}
use Rattle.chains.specs.declared.leaves.Link.{Link}
use Rattle.chains.specs.declared.leaves.Spot.{Spot}
use Rattle.chains.proofs.ReadLemmas.{reads_refused, reads_trans}
use Rattle.chains.proofs.SpanLemmas.{IsOnWay, all_known, past_read, spans_last}
use Rattle.chains.proofs.StepLemmas.{IsFound, found_all, same_at, goes_on, ends, true_false, found_on, found_end, asked_on, asked_end, unlinked_before, one_more}
use Rattle.chains.proofs.retrieval.walk_back.Given as given
use Rattle.chains.proofs.retrieval.walk_back.Goals.{In_ok-back}
use Rattle.chains.proofs.retrieval.walk_back.Goals as goal

module _ (g : given.Over) (c : In_ok-back g) where
  abbrev nodes : Pages LegView BoxView
  nodes = pages_of_cache c.args.cache.now

  abbrev rest : ℕ
  rest = c.leaves.left - 1

  abbrev spot : Spot
  spot = spot_of c.args.shape.now.leaf c.args.place.now.legs c.args.place.now.first rest

  less : c.leaves.left ≡ suc rest
  less = omega (arith, c.leaves-test.true)

  module _ (fa : IsTrue c.args.cache.now.store.is_faithful) where
    -- the leaf is taken of the pages as they were
    taken : TakesPage (nodes.at c.leaves.link.page) c.leaves.link spot c.args.want.now.period c.args.want.now.sieve c.leaves.found.items c.step.new.found.items
        (record { old = c.leaves.spans.items; new = c.step.new.spans.items; passed = c.leaves.passed }) c.in_ok-back.field-0
    taken =
        let t = c.in_ok-back.ensures.taken (c.leaves.invariant.reads.store.faithful ∙ fa) in
        let most : c.from-most.result ≡ c.args.shape.now.leaf = search rules in
        record {
          leaf = t.leaf;
          above = t.above;
          is = sym (same_at c.args.cache.now c.leaves.cache c.leaves.invariant.reads fa c.leaves.link.page) ∙ t.is;
          takes = subst (λ m. TakesLeaf t.leaf c.leaves.link (spot_of m c.args.place.now.legs c.args.place.now.first rest) c.args.want.now.period c.args.want.now.sieve c.leaves.found.items c.step.new.found.items c.in_ok-back.field-0) most t.takes;
          learns = t.learns;
        }

    linked : IsLinked nodes c.leaves.link spot taken.leaf
    linked = record { above = taken.above; is = taken.is; fits = taken.takes.fits }

    -- where the leaf is the last one that is read, or the chain goes on before it, it is a chain
    chain : (is_end c.args.want.now.period taken.leaf.legs ≡ false → IsChain nodes c.args.want.now.period c.args.shape.now.leaf c.args.place.now.legs c.args.place.now.first rest (link_back c.leaves.link.page taken.leaf))
        → IsChain nodes c.args.want.now.period c.args.shape.now.leaf c.args.place.now.legs c.args.place.now.first c.leaves.left c.leaves.link
    chain h = subst (λ n. IsChain nodes c.args.want.now.period c.args.shape.now.leaf c.args.place.now.legs c.args.place.now.first n c.leaves.link) (sym less) (taken.leaf, linked, h)

    -- the way goes on to the leaf before it, or ends with it
    on : (back : Link) → c.in_ok-back.field-0 ≡ Some back → (is_end c.args.want.now.period taken.leaf.legs ≡ false) × (back ≡ link_back c.leaves.link.page taken.leaf)
    on back is = goes_on (is_end c.args.want.now.period taken.leaf.legs) back (link_back c.leaves.link.page taken.leaf) (sym is ∙ taken.takes.link_is)

    last : c.in_ok-back.field-0 ≡ None → is_end c.args.want.now.period taken.leaf.legs ≡ true
    last is = ends (is_end c.args.want.now.period taken.leaf.legs) (link_back c.leaves.link.page taken.leaf) (sym is ∙ taken.takes.link_is)

    -- and it is on the way that is known
    past : IsOnWay nodes c.args.shape.now.leaf c.args.place.now.legs c.args.place.now.first (div_ceil c.args.place.now.legs c.args.shape.now.leaf) (last_link c.args.feature c.args.place.now) (suc c.leaves.passed) c.step.new.spans.items rest (link_back c.leaves.link.page taken.leaf)
    past =
        let legs = c.args.place.now.legs in
        let first = c.args.place.now.first in
        let leaf = c.args.shape.now.leaf in
        past_read nodes leaf legs first (div_ceil legs leaf) (last_link c.args.feature c.args.place.now) c.leaves.passed c.leaves.spans.items c.step.new.spans.items c.leaves.left rest c.leaves.link taken.leaf (c.leaves.invariant.way fa) less
        linked taken.learns

pub leaves-preserved : goal.leaves-preserved
leaves-preserved g c =
    let at = (goal.at.leaves-preserved g c).In_ok-back in
    let old = c.args.cache.now in
    let nodes = pages_of_cache old in
    let period = c.args.want.now.period in
    let shape = c.args.shape.now in
    let place = c.args.place.now in
    let link = c.leaves.link in
    let n = c.leaves.left in
    let rest = c.leaves.left - 1 in
    let inv = c.leaves.invariant in
    let blocks = div_ceil place.legs shape.leaf in
    let less : n ≡ suc rest = less g at in
    let next : c.leaves.passed + 1 ≡ suc c.leaves.passed = omega arith in
    record {
      reads = reads_trans old c.leaves.cache c.step.new.cache inv.reads c.step.ensures.reads.only;
      way = λ fa. (let s = on g at fa c.in-Some.back c.in-Some.is in rw (next, s.1) (past g at fa));
      found = λ fa.
          let t = taken g at fa in
          let s = on g at fa c.in-Some.back c.in-Some.is in
          let whole = walk nodes period blocks place.last in
          subst (λ b. IsFound nodes period c.args.want.now.sieve rest b.page whole c.step.new.found.items) (sym s.1)
          (found_on nodes period link t.leaf t.is rest n less c.args.want.now.sieve c.leaves.found.items c.step.new.found.items whole s.0 t.takes.legs (inv.found fa));
      chain = λ fa h.
          let s = on g at fa c.in-Some.back c.in-Some.is in
          inv.chain fa (chain g at fa (λ _. subst (λ b. IsChain nodes period shape.leaf place.legs place.first rest b) s.1 h));
      off = λ fa page h.
          let s = on g at fa c.in-Some.back c.in-Some.is in
          inv.off fa page (subst (λ n. IsOffChain nodes period shape.leaf place.legs place.first n link page) (sym less)
          (inr ((taken g at fa).leaf, linked g at fa, s.0, subst (λ b. IsOffChain nodes period shape.leaf place.legs place.first rest b page) s.1 h)));
      asked = λ fa none l.
          let t = taken g at fa in
          let s = on g at fa c.in-Some.back c.in-Some.is in
          let one = one_more c.leaves.cache.asked c.step.new.cache.asked (c.in_ok-back.ensures.asked none) l in
          let so_far = inv.asked fa none one.0 in
          let more = asked_on nodes period link t.leaf t.is rest n less s.0 in
          let same = ap (λ b. walked nodes period rest b.page) s.1 in
          omega (arith, one.1, so_far, more, same);
      within = λ fa.
          let t = taken g at fa in
          let s = on g at fa c.in-Some.back c.in-Some.is in
          let so_far = inv.within fa in
          let more = asked_on nodes period link t.leaf t.is rest n less s.0 in
          let same = ap (λ b. walked nodes period rest b.page) s.1 in
          omega (arith, c.step.ensures.most, so_far, more, same);
      passed = omega (arith, inv.passed, less);
    }

pub returns-in_err-back-clause-named : goal.returns-in_err-back-clause-named
returns-in_err-back-clause-named g c = λ fa.
    let p = err_from_is_err_and c.from_residual.result c.from_residual.ensures.1 in
    let old = c.args.cache.now in
    let shape = c.args.shape.now in
    let place = c.args.place.now in
    let link = c.leaves.link in
    let rest = c.leaves.left - 1 in
    let inv = c.leaves.invariant in
    let less : c.leaves.left ≡ suc rest = omega (arith, c.leaves-test.true) in
    let most : c.from-most.result ≡ shape.leaf = search rules in
    let nodes = pages_of_cache old in
    rw (p.1, p.2) (named_then _ (IsOffPlaceChain nodes c.args.want.now.period shape c.args.feature place)
    (λ page u. inv.off fa page (subst (λ n. IsOffChain nodes c.args.want.now.period shape.leaf place.legs place.first n link page) (sym less)
    (inl (subst (λ m. IsUnlinked nodes link (spot_of m place.legs place.first rest) page) most (unlinked_before old c.leaves.cache link (spot_of c.from-most.result place.legs place.first rest) page inv.reads fa u)))))
    _ (c.in_err-back.ensures.named (inv.reads.store.faithful ∙ fa)))

pub returns-in_default-clause-found : goal.returns-in_default-clause-found
returns-in_default-clause-found g c = λ fa.
    let at = (goal.at.returns-in_default-clause-found g c).In_ok-back in
    let t = taken g at fa in
    found_end (pages_of_cache c.args.cache.now) c.args.want.now.period c.leaves.link t.leaf t.is (c.leaves.left - 1) c.leaves.left (less g at) c.args.want.now.sieve c.leaves.found.items c.step.new.found.items _ (last g at fa c.in_default.is) t.takes.legs (c.leaves.invariant.found fa)

pub returns-in_default-clause-chain : goal.returns-in_default-clause-chain
returns-in_default-clause-chain g c = λ fa.
    let at = (goal.at.returns-in_default-clause-chain g c).In_ok-back in
    c.leaves.invariant.chain fa (chain g at fa (λ z. absurd (true_false (sym (last g at fa c.in_default.is) ∙ z))))

pub returns-clause-chain : goal.returns-clause-chain
returns-clause-chain g c = λ fa.
    let end : 0 ≡ c.leaves.left = omega (arith, c.leaves-test.false) in
    c.leaves.invariant.chain fa (subst (λ n. IsChain (pages_of_cache c.args.cache.now) c.args.want.now.period c.args.shape.now.leaf c.args.place.now.legs c.args.place.now.first n c.leaves.link) end tt)

pub returns-in_default-clause-asked : goal.returns-in_default-clause-asked
returns-in_default-clause-asked g c = λ fa none below.
    let at = (goal.at.returns-in_default-clause-asked g c).In_ok-back in
    let t = taken g at fa in
    let one = one_more c.leaves.cache.asked c.step.new.cache.asked (c.in_ok-back.ensures.asked none) below in
    let so_far = c.leaves.invariant.asked fa none one.0 in
    let end = asked_end (pages_of_cache c.args.cache.now) c.args.want.now.period c.leaves.link t.leaf t.is (c.leaves.left - 1) c.leaves.left (less g at) (last g at fa c.in_default.is) in
    omega (arith, one.1, so_far, end)

pub returns-in_default-clause-learns : goal.returns-in_default-clause-learns
returns-in_default-clause-learns g c = λ fa.
    let at = (goal.at.returns-in_default-clause-learns g c).In_ok-back in
    let place = c.args.place.now in
    let leaf = c.args.shape.now.leaf in
    all_known (pages_of_cache c.args.cache.now) leaf place.legs place.first (div_ceil place.legs leaf) (last_link c.args.feature place) (suc c.leaves.passed) c.step.new.spans.items (c.leaves.left - 1) (link_back c.leaves.link.page (taken g at fa).leaf) (past g at fa)

pub returns-clause-asked : goal.returns-clause-asked
returns-clause-asked g c = λ fa none below.
    let all = c.leaves.invariant.asked fa none below in
    let end : c.leaves.left ≡ 0 = omega (arith, c.leaves-test.false) in
    let no_more = ap (λ n. walked (pages_of_cache c.args.cache.now) c.args.want.now.period n c.leaves.link.page) end in
    omega (arith, all, no_more)

pub returns-in_default-clause-within : goal.returns-in_default-clause-within
returns-in_default-clause-within g c = λ fa.
    let at = (goal.at.returns-in_default-clause-within g c).In_ok-back in
    let t = taken g at fa in
    let so_far = c.leaves.invariant.within fa in
    let end = asked_end (pages_of_cache c.args.cache.now) c.args.want.now.period c.leaves.link t.leaf t.is (c.leaves.left - 1) c.leaves.left (less g at) (last g at fa c.in_default.is) in
    omega (arith, c.step.ensures.most, so_far, end)

pub step-requires-clause-known : goal.step-requires-clause-known
step-requires-clause-known g c = λ fa.
    let old = c.args.cache.now in
    let shape = c.args.shape.now in
    let place = c.args.place.now in
    let inv = c.leaves.invariant in
    let was = sym inv.reads.store.faithful ∙ fa in
    let most : c.from-most.result ≡ shape.leaf = search rules in
    let n : c.leaves.left ≡ suc (c.leaves.left - 1) = omega (arith, c.leaves-test.true) in
    let ahead = spans_last (pages_of_cache old) (pages_of_cache c.leaves.cache) (same_at old c.leaves.cache inv.reads was) shape.leaf place.legs place.first (drop c.leaves.passed c.leaves.spans.items) c.leaves.left c.leaves.link (inv.way was).ahead in
    rw most (subst (λ k. AreSpans (pages_of_cache c.leaves.cache) shape.leaf place.legs place.first (drop c.leaves.passed c.leaves.spans.items) k c.leaves.link) n ahead)

pub returns-clause-found : goal.returns-clause-found
returns-clause-found g c = λ fa.
    found_all (pages_of_cache c.args.cache.now) c.args.want.now.period c.args.want.now.sieve c.leaves.left c.leaves.link.page _ c.leaves.found.items (omega (arith, c.leaves-test.false)) (c.leaves.invariant.found fa)

pub returns-in_err-back-clause-learns : goal.returns-in_err-back-clause-learns
returns-in_err-back-clause-learns g c = λ fa.
    let nodes = pages_of_cache c.args.cache.now in
    let shape = c.args.shape.now in
    let place = c.args.place.now in
    let blocks = div_ceil place.legs shape.leaf in
    subst (λ spans. IsKnown nodes shape c.args.feature place spans) (sym c.in_err-back.ensures.forgets)
    (all_known nodes shape.leaf place.legs place.first blocks (last_link c.args.feature place) c.leaves.passed c.leaves.spans.items c.leaves.left c.leaves.link (c.leaves.invariant.way fa))

pub returns-clause-learns : goal.returns-clause-learns
returns-clause-learns g c = λ fa.
    let shape = c.args.shape.now in
    let place = c.args.place.now in
    all_known (pages_of_cache c.args.cache.now) shape.leaf place.legs place.first (div_ceil place.legs shape.leaf) (last_link c.args.feature place) c.leaves.passed c.leaves.spans.items c.leaves.left c.leaves.link (c.leaves.invariant.way fa)

pub returns-in_err-back-clause-reads : goal.returns-in_err-back-clause-reads
returns-in_err-back-clause-reads g c =
    let p = err_from_is_err_and c.from_residual.result c.from_residual.ensures.1 in
    rw (p.1, p.2) (reads_refused c.args.cache.now c.leaves.cache c.step.new.cache c.in_err-back.field-0.0 c.leaves.invariant.reads c.in_err-back.ensures.reads)

pub returns-in_default-clause-reads : goal.returns-in_default-clause-reads
returns-in_default-clause-reads g c =
    record { only = reads_trans c.args.cache.now c.leaves.cache c.step.new.cache c.leaves.invariant.reads c.step.ensures.reads.only; caused = tt }

use Rattle.std.proofs.Common.{ℕ, ◌≡◌, ◌+◌, ◌-◌, ◌^◌, ◌≤◌, ◌<◌, None}
use Rattle.std.specs.Prelude.{IsTrue}
use Rattle.std.specs.Int.{div_ceil}
use Rattle.tbtree.specs.Nodes.{pages_of_cache}
use Rattle.chains.specs.Chains.{IsChain, IsOffChain, IsOffPlaceChain, IsPlaceChain, last_link, walk, walked}
use Rattle.chains.specs.Reads.{OnlyReads}
use Rattle.chains.proofs.SpanLemmas.{IsOnWay}
use Rattle.chains.proofs.StepLemmas.{IsFound}
use Rattle.chains.proofs.retrieval.walk_back.Given as goal

abbrev pub decreases-leaves : goal.decreases-leaves
decreases-leaves g l = l.left

-- what is left to do gives what the whole gives
abbrev pub invariant-leaves : goal.invariant-leaves
invariant-leaves g l =
    let old = l.fn.cache in
    let nodes = pages_of_cache old in
    let place = l.fn.place in
    let blocks = div_ceil place.legs l.fn.shape.leaf in
    record {
      reads : OnlyReads old l.cache;
      way : IsTrue old.store.is_faithful → IsOnWay nodes l.fn.shape.leaf place.legs place.first blocks (last_link l.fn.feature place) l.passed l.spans.items l.left l.link;
      found : IsTrue old.store.is_faithful → IsFound nodes l.fn.want.period l.fn.want.sieve l.left l.link.page (walk nodes l.fn.want.period blocks place.last) l.found.items;
      chain : IsTrue old.store.is_faithful → IsChain nodes l.fn.want.period l.fn.shape.leaf place.legs place.first l.left l.link → IsPlaceChain nodes l.fn.want.period l.fn.shape l.fn.feature place;
      off : IsTrue old.store.is_faithful → (page : ℕ) → IsOffChain nodes l.fn.want.period l.fn.shape.leaf place.legs place.first l.left l.link page → IsOffPlaceChain nodes l.fn.want.period l.fn.shape l.fn.feature place page;
      asked : IsTrue old.store.is_faithful → l.fn.want.period ≡ None → l.cache.asked < 2 ^ 64 - 1
          → l.cache.asked + walked nodes l.fn.want.period l.left l.link.page ≡ old.asked + walked nodes l.fn.want.period blocks place.last;
      within : IsTrue old.store.is_faithful → l.cache.asked + walked nodes l.fn.want.period l.left l.link.page ≤ old.asked + walked nodes l.fn.want.period blocks place.last;
      passed : l.passed + l.left ≡ blocks;
    }

use Rattle.std.proofs.Common.{refl, ◌≡◌, ◌∙◌, ◌<◌, ◌≤◌, ◌-◌, ◌^◌, arith, length, ⊎_elim}
use Rattle.std.proofs.lemmas.Bool.{cases_lt}
use Rattle.tbtree.specs.declared.fault.TreeFault.TheVariants.{Malformed}
use Rattle.tbtree.specs.Nodes.{pages_of_cache}
use Rattle.tbtree.proofs.InsertLemmas.{few_enough, place_named}
use Rattle.tbtree.proofs.PassLemmas.{passes_refl}
use Rattle.tbtree.proofs.RoomLemmas.{fits}
use Rattle.tbtree.proofs.insertion.put.Goals as goal
use Rattle.tbtree.proofs.insertion.put.Goals.{then-tree-count-via-then-tree-count, then-tree-count-via-else-tree-count+then-tree-ge-MOST_LEVELS, then-tree-count-via-else-tree-count+else-tree-ge-MOST_LEVELS+then-place-leaf}

pub returns-then-tree-count-clause-fills : goal.returns-then-tree-count-clause-fills
returns-then-tree-count-clause-fills g c =
    let tree = c.args.tree.now in
    let place = c.args.place.now in
    let count : c.args.cache.now.count < 2 ^ 32 = omega (arith, c.count.ensures.value) in
    let leaf : c.from-leaf.result ≡ tree.shape.leaf = c.from-leaf.ensures ∙ c.leaf.ensures.value in
    let most = c.leaf.ensures.range.most_leaf in
    record {
      joins = λ fa. few_enough (pages_of_cache c.args.cache.now) (pages_of_cache c.args.cache.now) tree tree place place c.args.legs.now (Malformed tree.root) c.leaf.ensures.range count
          (λ (a : tree.leaves < c.args.cache.now.count) (b : tree.levels < 34) (d : place.legs < 2 ^ 64 - 51). elim c.then-tree-count.branch [
            | then-tree-count-via-then-tree-count w ↦ (let e = w.if-tree-count.true in omega (arith, a, e, c.count.ensures.value))
            | then-tree-count-via-else-tree-count+then-tree-ge-MOST_LEVELS w ↦ (let e = w.if-tree-ge-MOST_LEVELS.true in omega (arith, b, e))
            | then-tree-count-via-else-tree-count+else-tree-ge-MOST_LEVELS+then-place-leaf w ↦ (let e = w.if-place-leaf.true in omega (arith, d, e, leaf, most))
          ]);
      spent = refl;
      shape = refl;
      touches = record { passes = passes_refl c.args.cache.now; length = tt; caused = tt };
    }

pub returns-then-is_torn-clause-fills : goal.returns-then-is_torn-clause-fills
returns-then-is_torn-clause-fills g c =
    let tree = c.args.tree.now in
    let place = c.args.place.now in
    let pages = pages_of_cache c.args.cache.now in
    record {
      joins = λ fa. place_named pages pages tree tree place place c.args.legs.now (Malformed place.last) (c.is_torn.ensures.torn c.if-is_torn.true);
      spent = refl;
      shape = refl;
      touches = record { passes = passes_refl c.args.cache.now; length = tt; caused = tt };
    }

pub begin-requires-clause-room : goal.begin-requires-clause-room
begin-requires-clause-room g c =
    let n = c.args.tree.now.shape.leaf in
    let legs = c.args.legs.now in
    let least = c.leaf.ensures.range.least_leaf in
    ⊎_elim
    (λ (more : 1 < length legs). let room = c.requires.room more in omega (arith, room))
    (λ (few : length legs ≤ 1). omega (arith, few, least))
    (cases_lt 1 (length legs))

pub into_last-requires-clause-room : goal.into_last-requires-clause-room
into_last-requires-clause-room g c =
    let least = c.leaf.ensures.range.least_leaf in
    fits c.args.tree.now.shape.leaf c.args.place.now.legs (length c.args.legs.now) (omega (arith, least)) c.requires.room

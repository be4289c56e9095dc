use Rattle.std.proofs.Common.{◌≡◌, get_or, map, Some, slice_get}
use Rattle.std.proofs.lemmas.Option.{slice_get-get_or}
use Rattle.tbtree.specs.Stands.{no_place}
use Rattle.tbtree.specs.declared.tree.Place.{Place}
use Rattle.treecheck.specs.declared.walking.Met.{Met}
use Rattle.treecheck.proofs.OrderLemmas.{below_more}
use Rattle.treecheck.proofs.ordering.name_last.Goals as goal

pub loop-place-preserved : goal.loop-place-preserved
loop-place-preserved c =
    let xs = c.args.places.now in
    let i = c.loop-place.place-index in
    record { all = below_more (λ _ (p : Place). slice_get (map (λ (m : Met). m.page) c.args.leaves.now) p.last_index ≡ Some p.last) xs i (get_or xs i no_place) (slice_get-get_or xs i no_place c.loop-place-test.true) (c.is_on.ensures.0 c.if-not-is_on.false) c.loop-place.invariant.all }

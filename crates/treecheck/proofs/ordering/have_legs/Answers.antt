use Rattle.std.proofs.Common.{◌<◌, get_or, arith}
use Rattle.std.proofs.lemmas.Option.{slice_get-get_or}
use Rattle.tbtree.specs.Stands.{no_place}
use Rattle.tbtree.specs.declared.tree.Place.{Place}
use Rattle.treecheck.proofs.OrderLemmas.{below_more}
use Rattle.treecheck.proofs.ordering.have_legs.Goals as goal

pub loop-place-preserved : goal.loop-place-preserved
loop-place-preserved c =
    let xs = c.args.places.now in
    let i = c.loop-place.place-index in
    record { all = below_more (λ _ (p : Place). 0 < p.legs) xs i (get_or xs i no_place) (slice_get-get_or xs i no_place c.loop-place-test.true) (let u = c.if-place-eq0.false in omega (arith, u)) c.loop-place.invariant.all }

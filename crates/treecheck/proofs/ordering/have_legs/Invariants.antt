use Rattle.std.proofs.Common.{ℕ, ◌≡◌, ◌<◌, Some, slice_get}
use Rattle.tbtree.specs.declared.tree.Place.{Place}
use Rattle.treecheck.proofs.ordering.have_legs.Given as goal

abbrev pub invariant-loop-place : goal.invariant-loop-place
invariant-loop-place l = record { all : (f : ℕ) (place : Place) → f < l.place-index → slice_get l.places f ≡ Some place → 0 < place.legs }

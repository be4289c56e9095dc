use Rattle.std.proofs.Common.{ℕ, ◌≡◌, ◌<◌, Some, slice_get, map}
use Rattle.tbtree.specs.declared.tree.Place.{Place}
use Rattle.treecheck.specs.declared.walking.Met.{Met}
use Rattle.treecheck.proofs.ordering.name_last.Given as goal

abbrev pub invariant-loop-place : goal.invariant-loop-place
invariant-loop-place l = record { all : (f : ℕ) (place : Place) → f < l.place-index → slice_get l.places f ≡ Some place → slice_get (map (λ (m : Met). m.page) l.leaves) place.last_index ≡ Some place.last }

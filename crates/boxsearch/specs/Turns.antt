-- The turns of legs, leaf by leaf.
use Rattle.std.specs.Prelude.{ℕ, ◌+◌, ◌-◌, ◌*◌, ◌%◌, ◌^◌, ◌==◌, min, if◌then◌else◌, List, [], ◌∷◌, ◌++◌, length, slice_index_or, slice_set}
use Rattle.legs.specs.Legs.{LegView}
use Rattle.legs.specs.declared.index.IndexFault.{IndexFault}
use Rattle.legs.specs.declared.index.IndexFault.TheVariants.{Memory, Spent}
use Rattle.tbtree.specs.declared.tree.Place.{Place}
use Rattle.boxsearch.specs.declared.turns.Open.{Open}
use Rattle.boxsearch.specs.declared.turns.Turn.{Turn}

-- the last leaves of features from that one on
abbrev pub opened_from : ℕ → ℕ → List Place → List Open
opened_from most feature [] = []
opened_from most feature (place ∷ places) =
    record { filled = place.legs % most; leaf = feature } ∷ opened_from most (feature + 1) places

-- with one of the next feature
abbrev pub open_with : List Open → ℕ → ℕ → List Open
open_with ends feature made =
    if feature == length ends then ends ++ record { filled = 0; leaf = made } ∷ [] else ends

-- the last leaf of a feature; of a new one, a leaf with that number and no leg
abbrev pub open_at : List Open → ℕ → ℕ → Open
open_at ends feature made =
    slice_index_or (open_with ends feature made) feature (record { filled = 0; leaf = made })

-- the number of the leaf that takes the feature's next leg
unfoldable pub leaf_for : List Open → ℕ → ℕ → ℕ
leaf_for ends feature made =
    if (open_at ends feature made).filled == 0 then made else (open_at ends feature made).leaf

-- the last leaves after it
unfoldable pub open_after : ℕ → List Open → ℕ → ℕ → List Open
open_after most ends feature made =
    slice_set (open_with ends feature made) feature
    (record {
      filled = min ((open_at ends feature made).filled + 1) (2 ^ 64 - 1) % most;
      leaf = leaf_for ends feature made;
    })

-- the turns of legs from a place on
abbrev pub turns_from : ℕ → List Open → ℕ → ℕ → List LegView → List Turn
turns_from most ends base place [] = []
turns_from most ends base place (leg ∷ legs) =
    record { leaf = leaf_for ends leg.feature (base + place); place = place }
    ∷ turns_from most (open_after most ends leg.feature (base + place)) base (place + 1) legs

-- turns are not told for want of memory, or of legs that skip a feature
abbrev pub IsTurnFault : (skips : Type 0) → IndexFault → Type 0
IsTurnFault skips Memory = Unit {0}
IsTurnFault skips Spent = skips
IsTurnFault skips _ = ⊥

-- a turn's place in the order
abbrev pub turn_number : Turn → ℕ
turn_number turn = turn.leaf * 4294967296 + turn.place

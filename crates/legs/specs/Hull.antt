-- The least box that holds some legs.
use Rattle.std.specs.Prelude.{◌≡◌, Bool, false, List, [], ◌∷◌, Option, Some, None}
use Rattle.legs.specs.Legs.{LegView}
use Rattle.legs.specs.Boxes.{BoxView, box_of, cover_of}

-- the box of each leg, and the least box that holds two
pub record Boxes (L B : Type 0) : Type 0 where
  pub of : L → B
  pub cover : B → B → B

module _ {L B : Type 0} (s : Boxes L B) where
  -- the least box that holds two, either of which may be none
  abbrev pub both : Option B → Option B → Option B
  both None b = b
  both (Some a) None = Some a
  both (Some a) (Some b) = Some (s.cover a b)

  -- the least box of some legs; none where there is no leg
  abbrev pub hull : List L → Option B
  hull [] = None
  hull (l ∷ ls) = both (Some (s.of l)) (hull ls)

  -- the least box of a block: of the legs of its leaves
  abbrev pub hull_of : List (List L) → Option B
  hull_of [] = None
  hull_of (r ∷ rs) = both (hull r) (hull_of rs)

-- what does not meet the least box that holds two boxes meets neither of them
abbrev pub IsPruning : {L B : Type 0} → Boxes L B → (B → Bool) → Type 0
IsPruning {B = B} s meets =
    (p q : B) → meets (s.cover p q) ≡ false → (meets p ≡ false) × (meets q ≡ false)

-- the boxes of legs in the plane and in time
abbrev pub leg_boxes : Boxes LegView BoxView
leg_boxes = record { of = λ leg. box_of leg; cover = λ p q. cover_of p q }

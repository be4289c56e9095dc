-- What the calls on payloads ask for, and what they leave.
use Rattle.std.specs.Prelude.{ℕ, ◌≡◌, ◌<◌, ◌-◌, [], ◌∷◌, length, slice_get}
use Rattle.std.specs.Option.{ForSome}
use Rattle.legs.specs.Legs.{LegView}
use Rattle.legs.specs.Boxes.{BoxView, cover_of}
use Rattle.tbnode.specs.Nodes.{LeafView, EntryView, InnerView, Node, ALeaf, AnInner, with_leg, with_next, with_entry, with_wider}

-- the leg can be the next one of the leaf: there is room for it, it is of the feature, and its ordinal is above the last one's
pub record TakesLeg (leaf : LeafView LegView) (leg : LegView) : Type 0 where
  pub room : length leaf.legs < 50
  pub feature : leg.feature ≡ leaf.feature
  pub above : ForSome (slice_get leaf.legs (length leaf.legs - 1))
      (λ last. last.ordinal < leg.ordinal)

-- a leaf of one leg
abbrev pub new_leaf : ℕ → LegView → Node LegView BoxView
new_leaf previous leg =
    ALeaf (record { feature = leg.feature; previous = previous; next = 0; legs = leg ∷ [] })

-- an inner page of one entry
abbrev pub new_inner : ℕ → EntryView BoxView → Node LegView BoxView
new_inner level entry = AnInner (record { level = level; entries = entry ∷ [] })

-- the leaf with a leg more
abbrev pub leaf_with_leg : LegView → LeafView LegView → Node LegView BoxView
leaf_with_leg leg leaf = ALeaf (with_leg leg leaf)

-- the leaf with another next leaf
abbrev pub leaf_with_next : ℕ → LeafView LegView → Node LegView BoxView
leaf_with_next page leaf = ALeaf (with_next page leaf)

-- the inner page with an entry more
abbrev pub inner_with_entry : EntryView BoxView → InnerView BoxView → Node LegView BoxView
inner_with_entry entry page = AnInner (with_entry entry page)

-- the inner page with entry i widened to hold a box as well
abbrev pub inner_with_wider : ℕ → BoxView → InnerView BoxView → Node LegView BoxView
inner_with_wider i box page = AnInner (with_wider (λ p q. cover_of p q) i box page)

-- The shape of a tree.
use Rattle.std.specs.Prelude.{ℕ, ◌≤◌, ◌&&◌, nat_le, if◌then◌else◌, Option, Some, None}
use Rattle.legs.specs.Costs.{ShapeView}

-- a leaf has room for 2 to 50 legs, an inner page for 2 to 72 entries
pub record IsShape (shape : ShapeView) : Type 0 where
  pub least_leaf : 2 ≤ shape.leaf
  pub most_leaf : shape.leaf ≤ 50
  pub least_inner : 2 ≤ shape.inner
  pub most_inner : shape.inner ≤ 72

-- the shape of these two numbers, if they are in range
abbrev pub shape_of : ℕ → ℕ → Option ShapeView
shape_of leaf inner =
    if (nat_le 2 leaf && nat_le leaf 50) && (nat_le 2 inner && nat_le inner 72)
    then Some (record { leaf = leaf; inner = inner }) else None

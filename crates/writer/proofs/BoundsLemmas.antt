-- The fields of the first header line.
use Rattle.std.proofs.Common.{ℕ, ◌≡◌, List, [], ◌∷◌, ℤ, refl, codes}
use Rattle.timebase.specs.InstantText.{instant_text}
use Rattle.legs.specs.declared.head.BookHead.{BookHead}
use Rattle.writer.specs.Entries.{NamedLegView}
use Rattle.writer.specs.File.{bounds_fields, dimension_text, end_from}
use Rattle.writer.specs.Records.{point_text}
use Rattle.writer.specs.Steps.{AreCorners}
use Rattle.writer.specs.declared.corners.Corners.{Corners}

pub bounds_are : (head : BookHead) (entries : List NamedLegView) (c : Corners) (t : ℤ) (crs dimension lower upper base end : List ℕ) → crs ≡ head.crs → dimension ≡ dimension_text head.dimension → AreCorners c entries → t ≡ end_from head.base entries
    → lower ≡ point_text head.dimension (record { x = c.x_min; y = c.y_min; z = c.z_min }) → upper ≡ point_text head.dimension (record { x = c.x_max; y = c.y_max; z = c.z_max }) → base ≡ instant_text head.base → end ≡ instant_text t
    → (codes "@stboundedby" ∷ crs ∷ dimension ∷ lower ∷ upper ∷ base ∷ end ∷ codes "sec" ∷ []) ≡ bounds_fields head entries
unfolding bounds_fields
bounds_are head entries c t crs dimension lower upper base end same d corners ends l u b e =
    rw (same, d, l, u, b, e, corners.x_min, corners.y_min, corners.z_min, corners.x_max, corners.y_max, corners.z_max, ends) refl

-- Corners that reach to the ends of legs are the least and the greatest of their x, y and z.
use Rattle.std.proofs.Common.{◌≡◌, ◌∙◌, ap, refl, List, [], ◌∷◌, fold}
use Rattle.std.specs.Int.{int_max, int_min}
use Rattle.writer.specs.Entries.{NamedLegView}
use Rattle.writer.specs.File.{xs, ys, zs}
use Rattle.writer.specs.Steps.{AreCorners, corners_with, first_corners}
use Rattle.writer.specs.declared.corners.Corners.{Corners}

-- the numbers of corners that reach to all legs
pub record Reaches (start end : Corners) (entries : List NamedLegView) : Type 0 where
  pub x_min : end.x_min ≡ fold int_min start.x_min (xs entries)
  pub y_min : end.y_min ≡ fold int_min start.y_min (ys entries)
  pub z_min : end.z_min ≡ fold int_min start.z_min (zs entries)
  pub x_max : end.x_max ≡ fold int_max start.x_max (xs entries)
  pub y_max : end.y_max ≡ fold int_max start.y_max (ys entries)
  pub z_max : end.z_max ≡ fold int_max start.z_max (zs entries)

pub reaches : (start : Corners) (entries : List NamedLegView) → Reaches start (fold corners_with start entries) entries
reaches start [] = record { x_min = refl; y_min = refl; z_min = refl; x_max = refl; y_max = refl; z_max = refl }
reaches start (e ∷ entries) =
    let rest = reaches (corners_with start e) entries in
    record { x_min = rest.x_min; y_min = rest.y_min; z_min = rest.z_min; x_max = rest.x_max; y_max = rest.y_max; z_max = rest.z_max }

corners_all : (entries : List NamedLegView) → AreCorners (fold corners_with (first_corners entries) entries) entries
corners_all [] = record { x_min = refl; y_min = refl; z_min = refl; x_max = refl; y_max = refl; z_max = refl }
corners_all (e ∷ entries) =
    let all = reaches (first_corners (e ∷ entries)) (e ∷ entries) in
    record { x_min = all.x_min; y_min = all.y_min; z_min = all.z_min; x_max = all.x_max; y_max = all.y_max; z_max = all.z_max }

pub are_corners : (first corners : Corners) (entries : List NamedLegView) → first ≡ first_corners entries → corners ≡ fold corners_with first entries → AreCorners corners entries
are_corners first corners entries starts ends =
    let same : corners ≡ fold corners_with (first_corners entries) entries = ends ∙ ap (λ c. fold corners_with c entries) starts in
    rw same (corners_all entries)

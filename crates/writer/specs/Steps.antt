-- Helpers of private functions: what the steps of writing a file say.
use Rattle.std.specs.Prelude.{List, [], ◌∷◌, ◌≡◌, pos}
use Rattle.std.specs.Int.{int_max, int_min}
use Rattle.writer.specs.Entries.{NamedLegView}
use Rattle.writer.specs.File.{xs, ys, zs, least, greatest}
use Rattle.writer.specs.Records.{begin_of}
use Rattle.mfcsv.specs.declared.Position.{Position}
use Rattle.writer.specs.declared.corners.Corners.{Corners}

-- corners that reach to both ends of an entry's leg
abbrev pub corners_with : Corners → NamedLegView → Corners
corners_with c e = record {
  x_min = int_min (int_min c.x_min e.leg.x0) e.leg.x1;
  y_min = int_min (int_min c.y_min e.leg.y0) e.leg.y1;
  z_min = int_min (int_min c.z_min e.leg.z0) e.leg.z1;
  x_max = int_max (int_max c.x_max e.leg.x0) e.leg.x1;
  y_max = int_max (int_max c.y_max e.leg.y0) e.leg.y1;
  z_max = int_max (int_max c.z_max e.leg.z0) e.leg.z1;
}

-- corners at a point
abbrev pub corners_at : Position → Corners
corners_at p =
    record { x_min = p.x; y_min = p.y; z_min = p.z; x_max = p.x; y_max = p.y; z_max = p.z }

-- corners at the first end of the first leg, or at 0 0 0
abbrev pub first_corners : List NamedLegView → Corners
first_corners [] = corners_at (record { x = pos 0; y = pos 0; z = pos 0 })
first_corners (e ∷ entries) = corners_at (begin_of e.leg)

-- corners are those of all legs
pub record AreCorners (c : Corners) (entries : List NamedLegView) : Type 0 where
  pub x_min : c.x_min ≡ least (xs entries)
  pub y_min : c.y_min ≡ least (ys entries)
  pub z_min : c.z_min ≡ least (zs entries)
  pub x_max : c.x_max ≡ greatest (xs entries)
  pub y_max : c.y_max ≡ greatest (ys entries)
  pub z_max : c.z_max ≡ greatest (zs entries)

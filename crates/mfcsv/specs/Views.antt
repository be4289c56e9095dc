-- What contracts see of a data record and of the header lines.
use Rattle.std.specs.Prelude.{ℕ, ◌-◌, ◌==◌, ◌≤◌, if◌then◌else◌, List, length, Option, ℤ, pos, ◌-ℤ◌, ◌≤ℤ◌, ◌<ℤ◌}
use Rattle.timebase.specs.declared.Unit.{Unit}
use Rattle.mfcsv.specs.declared.Column.{Column}
use Rattle.mfcsv.specs.declared.Dimension.{Dimension}
use Rattle.mfcsv.specs.declared.Position.{Position}

-- a data record: its number in the file, its feature, its moments, its positions, its attribute values
pub record RecordView : Type 0 where
  pub number : ℕ
  pub mfidref : List ℕ
  pub t0 : ℤ
  pub t1 : ℤ
  pub positions : List Position
  pub attributes : List (List ℕ)

-- how many legs n positions make: one between each two that follow one another, and one that stands
-- still where there is one position
abbrev pub leg_count : ℕ → ℕ
leg_count n = if n == 1 then 1 else n - 1

-- what is true of each data record
pub record IsRecord (r : RecordView) : Type 0 where
  pub in_order : r.t0 <ℤ r.t1
  pub named : 1 ≤ length r.mfidref
  pub short : length r.mfidref ≤ 255
  pub placed : 1 ≤ length r.positions
  -- at least a millisecond for each leg
  pub long_enough : pos (leg_count (length r.positions)) ≤ℤ (r.t1 -ℤ r.t0)

-- a line `@stboundedby`: its number, its CRS name, and its dimension, its start instant and its unit where
-- they are read
pub record BoundsView : Type 0 where
  pub number : ℕ
  pub crs : List ℕ
  pub dimension : Option Dimension
  pub start : Option ℤ
  pub unit : Option Unit

-- a line `@columns`: its number and its attribute columns
pub record ColumnsView : Type 0 where
  pub number : ℕ
  pub columns : List Column

-- the header lines met so far
pub record HeadsView : Type 0 where
  pub bounds : Option BoundsView
  pub columns : Option ColumnsView

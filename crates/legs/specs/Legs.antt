-- Legs, and the legs of a record.
use Rattle.std.specs.Prelude.{ℕ, ◌+◌, ◌==◌, ◌≤◌, Bool, if◌then◌else◌, List, length, map, slice_index_or, ℤ, pos, ◌+ℤ◌, ◌-ℤ◌, ◌*ℤ◌, ◌<ℤ◌, ◌≤ℤ◌, int_le}
use Rattle.std.specs.Int.{int_div_euclid, int_max, int_min}
use Rattle.std.specs.List.{range_with_len}
use Rattle.fixedpoint.specs.Number.{IsInRange}
use Rattle.timebase.specs.Instant.{IsMoment}
use Rattle.timebase.specs.Period.{PeriodView}
use Rattle.mfcsv.specs.declared.Position.{Position}
use Rattle.mfcsv.specs.Views.{RecordView, leg_count}

-- A leg: a straight move of a feature from (x0, y0, z0) at t0 to (x1, y1, z1) at t1. Its ordinal is its place among all
-- legs, its feature a number, and its row the number of its attribute values.
pub record LegView : Type 0 where
  pub ordinal : ℕ
  pub feature : ℕ
  pub t0 : ℤ
  pub t1 : ℤ
  pub x0 : ℤ
  pub y0 : ℤ
  pub z0 : ℤ
  pub x1 : ℤ
  pub y1 : ℤ
  pub z1 : ℤ
  pub row : ℕ

-- the moments rise, and all of them and the coordinates are in range
pub record IsLeg (leg : LegView) : Type 0 where
  pub rises : leg.t0 <ℤ leg.t1
  pub t0 : IsMoment leg.t0
  pub t1 : IsMoment leg.t1
  pub x0 : IsInRange leg.x0
  pub y0 : IsInRange leg.y0
  pub z0 : IsInRange leg.z0
  pub x1 : IsInRange leg.x1
  pub y1 : IsInRange leg.y1
  pub z1 : IsInRange leg.z1

-- a move of a record, that has no number yet
pub record StepView : Type 0 where
  pub t0 : ℤ
  pub t1 : ℤ
  pub x0 : ℤ
  pub y0 : ℤ
  pub z0 : ℤ
  pub x1 : ℤ
  pub y1 : ℤ
  pub z1 : ℤ

-- the moments rise, and all of them and the coordinates are in range
pub record IsStep (step : StepView) : Type 0 where
  pub rises : step.t0 <ℤ step.t1
  pub t0 : IsMoment step.t0
  pub t1 : IsMoment step.t1
  pub x0 : IsInRange step.x0
  pub y0 : IsInRange step.y0
  pub z0 : IsInRange step.z0
  pub x1 : IsInRange step.x1
  pub y1 : IsInRange step.y1
  pub z1 : IsInRange step.z1

-- the step between two positions at two moments
abbrev pub step_between : ℤ → ℤ → Position → Position → StepView
step_between t0 t1 from to =
    record {
      t0 = t0;
      t1 = t1;
      x0 = from.x;
      y0 = from.y;
      z0 = from.z;
      x1 = to.x;
      y1 = to.y;
      z1 = to.z;
    }

-- where the cut between leg k - 1 and leg k of n legs lies: start + floor((end - start) * k / n)
unfoldable pub cut_moment : ℤ → ℤ → ℕ → ℕ → ℤ
cut_moment start end n k = start +ℤ int_div_euclid ((end -ℤ start) *ℤ pos k) (pos n)

-- the position of that number
abbrev pub position_at : List Position → ℕ → Position
position_at positions k = slice_index_or positions k (record { x = pos 0; y = pos 0; z = pos 0 })

-- leg k goes to the position k + 1; where there is one position, it stands still
abbrev pub next_position : List Position → ℕ → Position
next_position positions k =
    if length positions == 1 then position_at positions k else position_at positions (k + 1)

-- leg k of a record
unfoldable pub step_at : RecordView → ℕ → StepView
step_at r k =
    let n = leg_count (length r.positions) in
    step_between (cut_moment r.t0 r.t1 n k) (cut_moment r.t0 r.t1 n (k + 1))
    (position_at r.positions k) (next_position r.positions k)

-- the legs of a record
abbrev pub steps_of : RecordView → List StepView
steps_of r = map (step_at r) (range_with_len 0 (leg_count (length r.positions)))

-- a leg with its numbers
abbrev pub leg_of : ℕ → ℕ → ℕ → StepView → LegView
leg_of ordinal feature row step =
    record {
      ordinal = ordinal;
      feature = feature;
      t0 = step.t0;
      t1 = step.t1;
      x0 = step.x0;
      y0 = step.y0;
      z0 = step.z0;
      x1 = step.x1;
      y1 = step.y1;
      z1 = step.z1;
      row = row;
    }

-- the first moment of a leg in a period, where it has one: the later of the two starts
abbrev pub first_moment : LegView → PeriodView → ℤ
first_moment leg period = int_max leg.t0 period.start

-- the last moment of a leg in a period, where it has one: the earlier of the two ends
abbrev pub last_moment : LegView → PeriodView → ℤ
last_moment leg period = int_min leg.t1 period.end

-- the fraction n / d is a moment of the leg in the period
pub record IsMomentOf (leg : LegView) (period : PeriodView) (n : ℤ) (d : ℕ) : Type 0 where
  pub divisor : 1 ≤ d
  pub from : (first_moment leg period *ℤ pos d) ≤ℤ n
  pub to : n ≤ℤ (last_moment leg period *ℤ pos d)

-- the leg has a moment in the period
abbrev pub HasMoment : LegView → PeriodView → Type 0
HasMoment leg period = (n : ℤ) × (d : ℕ) × IsMomentOf leg period n d

-- which is so exactly where the later start is not after the earlier end
abbrev pub is_live : PeriodView → LegView → Bool
is_live period leg = int_le (first_moment leg period) (last_moment leg period)

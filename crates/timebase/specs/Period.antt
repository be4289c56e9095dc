-- What contracts see of a period.
use Rattle.std.specs.Prelude.{ℤ, int_le, if◌then◌else◌, Option, Some, None}

-- the moments from start to end, both included
pub record PeriodView : Type 0 where
  pub start : ℤ
  pub end : ℤ

-- the period from one moment to another that is not earlier
abbrev pub period_of : ℤ → ℤ → Option PeriodView
period_of start end = if int_le start end then Some (record { start = start; end = end }) else None

-- The limits of a database.
use Rattle.std.specs.Prelude.{ℕ, ◌≤◌}

-- how many legs and how many features there may be
pub record LimitsView : Type 0 where
  pub legs : ℕ
  pub features : ℕ

-- the greatest limit: 2 ^ 31
abbrev pub greatest_limit : ℕ
greatest_limit = 2147483648

-- each limit is from 1 to 2 ^ 31
pub record IsLimits (limits : LimitsView) : Type 0 where
  pub some_legs : 1 ≤ limits.legs
  pub few_legs : limits.legs ≤ greatest_limit
  pub some_features : 1 ≤ limits.features
  pub few_features : limits.features ≤ greatest_limit

-- limits of so many legs and features
abbrev pub limits_of : ℕ → ℕ → LimitsView
limits_of legs features = record { legs = legs; features = features }

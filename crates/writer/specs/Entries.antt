-- What contracts see of an entry of a file.
use Rattle.std.specs.Prelude.{List, ℕ}
use Rattle.legs.specs.Legs.{LegView}

-- a leg with the name of its feature and the attribute values of its record
pub record NamedLegView : Type 0 where
  pub name : List ℕ
  pub leg : LegView
  pub values : List (List ℕ)

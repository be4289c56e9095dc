-- How rows stand in one list of values.
use Rattle.std.specs.Prelude.{ℕ, List, ◌≤◌, ◌+◌, ◌++◌, ◌∷◌, [], length, map, take, drop, get_or, replicate, IsUtf8}
use Rattle.std.specs.List.{All}
use Rattle.rows.specs.declared.row.RowPlace.{RowPlace}

-- the row at a place: its values, and blank ones behind them
abbrev pub row_of : List (List ℕ) → RowPlace → List (List ℕ)
row_of values place = take place.count (drop place.first values) ++ replicate place.blanks []

-- the rows at places
abbrev pub rows_at : List (List ℕ) → List RowPlace → List (List (List ℕ))
rows_at values places = map (row_of values) places

-- the places of those numbers; equal rows have one place
abbrev pub places_of : List RowPlace → List ℕ → List RowPlace
places_of kept numbers = map (λ n. get_or kept n (record { first = 0; count = 0; blanks = 0 })) numbers

-- all values of a place are there, and are texts
pub record IsIn (values : List (List ℕ)) (place : RowPlace) : Type 0 where
  pub inside : place.first + place.count ≤ length values
  pub texts : All IsUtf8 (take place.count (drop place.first values))

-- those of each place
abbrev pub AreIn : List (List ℕ) → List RowPlace → Type 0
AreIn values places = All (IsIn values) places

-- rows, and the values so far of one row more
pub record Grown : Type 0 where
  pub rows : List (List (List ℕ))
  pub row : List (List ℕ)

-- those at places among the values before a number, and the values from it on
abbrev pub grown : List (List ℕ) → List RowPlace → ℕ → Grown
grown values places first = record { rows = rows_at (take first values) places; row = drop first values }

-- all of them are there, and are texts
pub record AreGrown (values : List (List ℕ)) (places : List RowPlace) (first : ℕ) : Type 0 where
  pub rows : AreIn (take first values) places
  pub begins : first ≤ length values
  pub texts : All IsUtf8 (drop first values)

-- with a value more, and with a row more: the one that was begun
abbrev pub with_value : Grown → List ℕ → Grown
with_value g value = record { rows = g.rows; row = g.row ++ value ∷ [] }

-- the row that is begun is put at the end, and a new one has no value
abbrev pub with_row : Grown → Grown
with_row g = record { rows = g.rows ++ g.row ∷ []; row = [] }

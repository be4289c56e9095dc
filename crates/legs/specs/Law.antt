-- The law of a book.
use Rattle.std.specs.Prelude.{ℕ, ◌≡◌, ◌≢◌, ◌≤◌, ◌<◌, List, [], length, All, AllPairs, Some, None}
use Rattle.legs.specs.declared.head.BookHead.{BookHead}
use Rattle.legs.specs.Legs.{LegView}
use Rattle.legs.specs.Index.{feature_count, last_end, CanFollowInTurn}
use Rattle.legs.specs.Limits.{LimitsView}
use Rattle.legs.specs.Book.{Book, empty_book}

-- a name has 1 to 255 bytes
pub record IsName (name : List ℕ) : Type 0 where
  pub some : 1 ≤ length name
  pub short : length name ≤ 255

-- the feature and the row of a leg are there
pub record IsThere (book : Book) (leg : LegView) : Type 0 where
  pub feature : leg.feature < length book.names
  pub row : leg.row < length book.rows

-- the law of a book but for its head
pub record IsOrdered (limits : LimitsView) (book : Book) : Type 0 where
  pub names : All IsName book.names
  pub distinct : AllPairs (λ a b. a ≢ b) book.names
  pub there : All (IsThere book) book.legs
  -- each leg's ordinal is its place, features are numbered in the order of their first legs, and none goes
  -- back in time
  pub in_turn : CanFollowInTurn [] book.legs
  -- each name has a leg
  pub numbered : feature_count book.legs ≡ length book.names
  pub led : (feature : ℕ) → feature < length book.names → last_end feature book.legs ≢ None
  pub few_legs : length book.legs ≤ limits.legs
  pub few_features : length book.names ≤ limits.features
  pub few_rows : length book.rows ≤ length book.legs

-- the law of a book under limits
pub record IsBook (limits : LimitsView) (book : Book) : Type 0 where
  pub ordered : IsOrdered limits book
  -- before the first accepted file there is nothing
  pub none : book.head ≡ None → book ≡ empty_book
  -- each row has as many attribute values as the head has columns
  pub rows : (head : BookHead) → book.head ≡ Some head
      → All (λ row. length row ≡ length head.columns) book.rows

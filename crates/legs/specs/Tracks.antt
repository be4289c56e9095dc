-- What is kept of a book beside its legs, and how it stands for the book.
use Rattle.std.specs.Prelude.{ℕ, ◌≡◌, ◌<◌, ◌<ℤ◌, ◌≤◌, List, length, count_by, slice_get, slice_index_or, All, Some, None, ◌≢◌}
use Rattle.timebase.specs.Period.{PeriodView}
use Rattle.legs.specs.Legs.{LegView}
use Rattle.legs.specs.Index.{feature_count, last_end, is_of}
use Rattle.legs.specs.Limits.{greatest_limit}
use Rattle.legs.specs.Book.{Book}
use Rattle.legs.specs.declared.tracks.Track.{Track}

-- the names of the features, in order of first acceptance; the last end and the number of legs of each; the
-- number of all legs, and of all rows of attribute values
pub record TracksView : Type 0 where
  pub names : List (List ℕ)
  pub tracks : List Track
  pub legs : ℕ
  pub rows : ℕ

-- the track of a feature of which the list has a leg
pub record IsTrack (track : Track) (legs : List LegView) (feature : ℕ) : Type 0 where
  pub end : last_end feature legs ≡ Some track.end
  pub count : count_by (is_of feature) legs ≡ track.legs

-- features are numbered from 0 in the order of their first legs, each name has a leg and each leg a row, and
-- there are no more legs and features than the greatest limit
pub record IsLawful (book : Book) : Type 0 where
  pub numbered : feature_count book.legs ≡ length book.names
  pub led : (feature : ℕ) → feature < length book.names → last_end feature book.legs ≢ None
  pub rows : All (λ leg. leg.row < length book.rows) book.legs
  pub few_legs : length book.legs ≤ greatest_limit
  pub few_names : length book.names ≤ greatest_limit

-- the tracks are those of a book
pub record StandsFor (tracks : TracksView) (book : Book) : Type 0 where
  pub names : tracks.names ≡ book.names
  pub paired : length tracks.tracks ≡ length book.names
  pub each : (feature : ℕ) (d : Track) → feature < length book.names
      → IsTrack (slice_index_or tracks.tracks feature d) book.legs feature
  pub legs : tracks.legs ≡ length book.legs
  pub rows : tracks.rows ≡ length book.rows
  pub lawful : IsLawful book

-- the last leg of a feature ends before a period, as its track says
pub record IsOver (tracks : TracksView) (feature : ℕ) (period : PeriodView) : Type 0 where
  pub track : Track
  pub there : slice_get tracks.tracks feature ≡ Some track
  pub before : track.end <ℤ period.start

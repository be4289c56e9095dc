-- Helpers of private functions: a draft of a book: what is known of each name.
use Rattle.std.specs.Prelude.{ℕ, ◌≡◌, ◌≤◌, ◌+◌, ◌^◌, ◌++◌, List, length, slice_get, OnOk, Option, Result}
use Rattle.mfcsv.specs.Views.{RecordView}
use Rattle.legs.specs.Legs.{LegView}
use Rattle.std.specs.Option.{option_and_then, option_map, option_or}
use Rattle.legs.specs.Index.{last_end}
use Rattle.legs.specs.Book.{Book, feature_named, names_with, record_legs, with_record}
use Rattle.legs.specs.Names.{met, names_and, fresh_names}
use Rattle.legs.specs.Tracks.{TracksView, IsLawful}
use Rattle.legs.specs.declared.draft.Latest.{Latest}
use Rattle.legs.specs.declared.draft.Draft.{Draft}

-- the latest of a name, in a book
abbrev pub latest_of : Book → List ℕ → Option Latest
latest_of book name =
    option_and_then
    (λ feature. option_map (λ end. record { feature = feature; end = end })
    (last_end feature book.legs)) (feature_named book.names name)

-- the latest of a name, in tracks
abbrev pub latest_in : TracksView → List ℕ → Option Latest
latest_in tracks name =
    option_and_then
    (λ feature. option_map (λ track. record { feature = feature; end = track.end })
    (slice_get tracks.tracks feature)) (feature_named tracks.names name)

-- what a draft knows of a name: by a record of the file, or else by the tracks
unfoldable pub known : Draft → List ℕ → Option Latest
known draft name = option_or (met draft.names name) (latest_in draft.tracks.now name)

-- the draft is that of a lawful book
pub record IsDraft (draft : Draft) (book : Book) : Type 0 where
  pub known : (name : List ℕ) → known draft name ≡ latest_of book name
  pub features : draft.features ≡ length book.names
  pub legs : draft.legs ≡ length book.legs
  pub rows : draft.rows ≡ length book.rows
  pub few_names : length draft.tracks.now.names ≤ 2 ^ 32
  pub paired : length draft.names.latest ≡ length draft.names.names
  -- the names of the features that the tracks lack are those that the file adds
  pub fresh : names_and draft.tracks.now.names
      (fresh_names (length draft.tracks.now.names) draft.names.names draft.names.latest)
      ≡ book.names
  pub lawful : IsLawful book

-- what joining a record to a draft does, that of a book of which that is known: its legs are appended
pub record TakesRecord {E : Type 0} (old new : Draft) (r : RecordView) (before after : List LegView)
    (Is : Book → Type 0) (result : Result (Unit {0}) E) : Type 0 where
  pub book : OnOk result
      ((book : Book) → IsDraft old book → Is book → IsDraft new (with_record book r))
  pub legs : OnOk result
      ((book : Book) → IsDraft old book → Is book → after ≡ before ++ record_legs book r)
  pub names : OnOk result (new.names.names ≡ names_with old.names.names r.mfidref)
  pub rows : OnOk result (new.rows ≡ old.rows + 1)
  pub tracks : new.tracks ≡ old.tracks
  pub few_rows : new.rows ≤ new.legs

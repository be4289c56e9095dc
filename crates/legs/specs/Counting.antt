-- Helpers of private functions: how tracks take in a file, step by step.
use Rattle.std.specs.Prelude.{ℕ, ◌≡◌, ◌+◌, ◌-◌, ◌^◌, min, List, ◌++◌, fold, All, slice_set, slice_index_or, OnErr, OnOk, Result}
use Rattle.mfcsv.specs.Views.{RecordView}
use Rattle.legs.specs.Legs.{LegView}
use Rattle.legs.specs.Book.{names_with}
use Rattle.legs.specs.Names.{names_and}
use Rattle.legs.specs.Tracks.{TracksView}
use Rattle.legs.specs.declared.tracks.Track.{Track}

-- the names, with those of records
abbrev pub names_after : List (List ℕ) → List RecordView → List (List ℕ)
names_after names records = fold (λ names r. names_with names r.mfidref) names records

-- nothing was taken away, and only tracks without legs were added
pub record Extends (old new : TracksView) : Type 0 where
  pub more_names : (more : List (List ℕ)) × (new.names ≡ old.names ++ more)
  pub more_tracks : (more : List Track) × (new.tracks ≡ old.tracks ++ more)
      × All (λ track. track.legs ≡ 0) more
  pub legs : new.legs ≡ old.legs
  pub rows : new.rows ≡ old.rows

-- names were added, where they were not there yet
pub record AddsNames (old new : TracksView) (added : List (List ℕ)) : Type 0 where
  pub extends : Extends old new
  pub names : new.names ≡ names_and old.names added

-- names were added; or, where memory ran out, nothing has changed
pub record TakesNames {E : Type 0} (old new : TracksView) (added : List (List ℕ))
    (result : Result (Unit {0}) E) : Type 0 where
  pub ok : OnOk result (AddsNames old new added)
  pub err : OnErr result (new ≡ old)

-- a leg was counted in the track of its feature
abbrev pub counted : List Track → LegView → List Track
counted tracks leg =
    slice_set tracks leg.feature
    (record {
      end = leg.t1;
      legs = min ((slice_index_or tracks leg.feature (record { end = leg.t1; legs = 0 })).legs + 1)
          (2 ^ 64 - 1);
    })

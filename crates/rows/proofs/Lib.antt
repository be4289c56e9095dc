mod GrowingLemmas
mod PlaceLemmas
mod RowLemmas

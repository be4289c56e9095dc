pub mod BoundsLemmas
pub mod CornerLemmas

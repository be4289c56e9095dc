pub mod Quotients
pub mod LengthLemmas
pub mod PlaceLemmas
pub mod JoinLemmas
pub mod DwellLemmas
pub mod EndLemmas

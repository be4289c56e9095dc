pub mod CutLemmas
pub mod WordLemmas

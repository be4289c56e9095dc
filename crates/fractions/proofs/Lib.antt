pub mod PartLemmas
pub mod SignLemmas
pub mod ShareLemmas
pub mod TermLemmas

pub mod ReadLemmas
pub mod BackLemmas
pub mod PartLemmas
pub mod ManyLemmas
pub mod LeastLemmas

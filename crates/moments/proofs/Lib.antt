pub mod Quotients
pub mod Lowest
pub mod StayLemmas
pub mod CodeLemmas
pub mod ListLemmas
pub mod EverLemmas
pub mod VisitLemmas

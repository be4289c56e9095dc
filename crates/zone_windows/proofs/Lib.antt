pub mod Sides
pub mod NearLemmas
pub mod PartLemmas
pub mod CourseLemmas

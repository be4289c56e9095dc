pub mod Predicates
pub mod Courses
pub mod Near

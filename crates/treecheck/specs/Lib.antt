pub mod Check
pub mod Checking
pub mod Finding
pub mod Levels
pub mod Ordering
pub mod Walking

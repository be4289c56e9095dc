pub mod Instant
pub mod Period
pub mod InstantText
pub mod Time

pub mod OldForm
pub mod OldLegs
pub mod Migrating
pub mod OldStore

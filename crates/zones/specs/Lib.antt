pub mod Places
pub mod Edges
pub mod Zones
pub mod Turns
pub mod Stays
pub mod Cuts
pub mod Entries

pub mod Ends
pub mod Places
pub mod Joining
pub mod Fractions
pub mod Lengths
pub mod Dwells

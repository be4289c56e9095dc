pub mod Fractions
pub mod Parts
pub mod Stays
pub mod Ends
pub mod Lengths
pub mod Visits
pub mod Asking

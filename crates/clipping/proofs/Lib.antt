pub mod Products
pub mod Fractions
pub mod Cuts
pub mod InsideLemmas

pub mod Names
pub mod Part
pub mod Faults
pub mod Raw
pub mod Texts
pub mod Written

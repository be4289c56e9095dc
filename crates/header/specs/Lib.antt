pub mod Front
pub mod Fields

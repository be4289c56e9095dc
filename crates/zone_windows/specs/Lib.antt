pub mod Near
pub mod Parts

pub mod Told
pub mod Parts
pub mod Laws
pub mod Joining
pub mod Loading
pub mod Scripts

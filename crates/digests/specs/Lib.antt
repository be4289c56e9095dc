pub mod Lanes
pub mod Pages

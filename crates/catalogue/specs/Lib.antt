pub mod Beginning
pub mod Holding
pub mod Closing
pub mod Finishing

pub mod Inside
pub mod Line
pub mod Clip

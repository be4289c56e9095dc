pub mod Number
pub mod NumberText
pub mod Laws
pub mod Steps

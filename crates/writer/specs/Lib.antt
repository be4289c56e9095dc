pub mod Records
pub mod Written
pub mod Entries
pub mod File
pub mod Steps

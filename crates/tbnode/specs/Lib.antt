pub mod Nodes
pub mod Parts
pub mod Layout
pub mod Form
pub mod Edits
pub mod Steps

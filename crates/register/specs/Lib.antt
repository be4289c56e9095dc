pub mod Text
pub mod Chain
pub mod ChainWriter
pub mod ChainReader
pub mod Saved
pub mod Saving
pub mod Lasting
pub mod Restoring

pub mod Bytes
pub mod Fuse
pub mod PagesOfLemmas
pub mod Sealed
pub mod Store
pub mod Unsealed
pub mod Unsynced
pub mod Zero

pub mod BringLemmas
pub mod CacheLemmas
pub mod CallerLemmas
pub mod HeldLemmas
pub mod MemoryLemmas
pub mod PageLemmas
pub mod UnsyncedLemmas

pub mod CachedBytes

pub mod CachedIds
pub mod Entries
pub mod Sids
pub mod Told
pub mod Trees

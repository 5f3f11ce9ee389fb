pub mod Open
pub mod Marked
pub mod Receivers
pub mod CachedViews

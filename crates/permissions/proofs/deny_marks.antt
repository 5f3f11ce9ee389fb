pub mod Bounded
pub mod Judged
pub mod Kept

pub mod Sessions
pub mod Delivered
pub mod Planned
pub mod Replying

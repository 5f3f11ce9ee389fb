pub mod Seen
pub mod Reach
pub mod Within
pub mod Denied
pub mod Standing

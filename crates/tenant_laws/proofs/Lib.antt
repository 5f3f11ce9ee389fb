pub mod Rest
pub mod Following
pub mod Unseen
pub mod Runs

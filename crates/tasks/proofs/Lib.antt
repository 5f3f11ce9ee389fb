pub mod Answered
pub mod Bounds
pub mod Checks
pub mod Runs

pub mod Bounds
pub mod Entering
pub mod Publishing
pub mod Waits

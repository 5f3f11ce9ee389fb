pub mod Kept
pub mod Marking
pub mod Staying

pub mod Ending
pub mod Turns

pub mod Patterns
pub mod Ranges
pub mod Stars
pub mod Parts

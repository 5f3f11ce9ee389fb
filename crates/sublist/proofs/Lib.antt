pub mod Levels
pub mod Rising
pub mod Reached
pub mod Changes
pub mod Index

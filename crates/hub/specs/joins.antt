pub mod Joins
pub mod Search

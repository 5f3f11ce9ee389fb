pub mod Comparing
pub mod Files
pub mod Options
pub mod Question
pub mod Words

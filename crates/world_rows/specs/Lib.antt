pub mod Changes
pub mod Limit
pub mod Rows
pub mod ids

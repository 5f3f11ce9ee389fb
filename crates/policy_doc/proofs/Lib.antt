pub mod Names
pub mod UniqueNames
mod Twins
mod Causes

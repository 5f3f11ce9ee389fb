pub mod Names
pub mod Exports
pub mod Imports

pub mod Place
pub mod Starts
pub mod Spots
pub mod Names
pub mod Repeats

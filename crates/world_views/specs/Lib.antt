pub mod Requests
pub mod Changing
pub mod Viewing
pub mod Occasions
pub mod addressing

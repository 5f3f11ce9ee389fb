pub mod Chosen
pub mod Grouped
pub mod Lists
pub mod Passing

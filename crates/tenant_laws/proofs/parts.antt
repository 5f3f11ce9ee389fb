pub mod Lists
pub mod Routes
pub mod Policy
pub mod Least
pub mod OnLeast

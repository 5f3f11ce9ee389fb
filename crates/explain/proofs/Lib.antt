pub mod Shown
pub mod Users
pub mod Lists

pub mod Lists
pub mod Keys
pub mod Remaining
pub mod Ascending
pub mod Beside

pub mod Found
pub mod Least
pub mod One
pub mod Reason

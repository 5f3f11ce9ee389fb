pub mod Users
pub mod Entries

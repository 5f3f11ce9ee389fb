pub mod Members
pub mod Users

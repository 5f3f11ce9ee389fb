pub mod Walk
pub mod Texts
pub mod Permissions
pub mod Rows
pub mod Mappings
pub mod Accounts
pub mod Whole

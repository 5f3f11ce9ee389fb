pub mod Entry
pub mod Permissions

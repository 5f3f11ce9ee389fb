pub mod Happenings
pub mod Accounts

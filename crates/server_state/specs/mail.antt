pub mod Owners
pub mod Work
pub mod Mails

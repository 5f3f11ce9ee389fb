pub mod history
pub mod mail

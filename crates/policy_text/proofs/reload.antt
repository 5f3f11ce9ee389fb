pub mod Last
pub mod Texts

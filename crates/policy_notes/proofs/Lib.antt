pub mod Few
pub mod Keys
pub mod Quotes
pub mod Spaces
pub mod Texts

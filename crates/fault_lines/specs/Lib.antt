pub mod Documents
pub mod Words

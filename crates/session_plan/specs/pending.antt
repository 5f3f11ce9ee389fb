pub mod Reading
pub mod Owing
pub mod Texts

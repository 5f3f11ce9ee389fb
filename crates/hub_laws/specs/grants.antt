pub mod Dropping
pub mod Noted
pub mod Asked

pub mod Finding
pub mod Moved
pub mod Lines

pub mod Bytes
pub mod Rotating

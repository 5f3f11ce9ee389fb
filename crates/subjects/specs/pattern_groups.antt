pub mod Hashes
pub mod Links
pub mod Places

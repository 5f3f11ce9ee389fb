pub mod Firsts
pub mod Appended
pub mod Crossed
pub mod Places
pub mod Seen

pub mod Fault
pub mod Server
pub mod Session
pub mod Play
pub mod sessions

pub mod Turns
pub mod Serving
pub mod Running
pub mod Drains
pub mod Calls

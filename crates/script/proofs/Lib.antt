pub mod Answering
pub mod Turning
pub mod Calls
pub mod Takes
pub mod Enough
pub mod Drains
pub mod Plays

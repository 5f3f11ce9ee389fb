pub mod Begins
pub mod InTurn
pub mod Addressed
pub mod Seeing
pub mod InAll
pub mod Requests
pub mod Under

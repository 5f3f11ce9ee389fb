pub mod Line
pub mod Field
pub mod Places
pub mod Operation

pub mod Closed
pub mod Smallest
pub mod Places
pub mod Printed

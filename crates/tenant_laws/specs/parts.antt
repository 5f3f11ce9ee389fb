pub mod Part
pub mod Laws
pub mod Least

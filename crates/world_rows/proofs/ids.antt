mod Found
pub mod Holding
pub mod Owns
mod Said

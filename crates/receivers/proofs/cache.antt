pub mod Draws
pub mod Stays
pub mod Told

pub mod Maps
pub mod Seen

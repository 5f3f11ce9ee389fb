pub mod Cuts
pub mod Parts
mod Reading

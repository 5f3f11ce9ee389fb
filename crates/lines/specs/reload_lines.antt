pub mod Reloads
pub mod Shown

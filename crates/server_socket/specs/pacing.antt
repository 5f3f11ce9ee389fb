pub mod Awaited
pub mod Bounds
pub mod Due
pub mod Slice

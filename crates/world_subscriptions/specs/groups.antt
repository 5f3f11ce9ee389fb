pub mod Served
pub mod Chosen
pub mod Grouped

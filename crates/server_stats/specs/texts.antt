pub mod Line
pub mod Metrics

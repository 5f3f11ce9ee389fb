pub mod Covered
pub mod Exact
pub mod Members
pub mod Parts
pub mod Questions
pub mod Sampled
pub mod Told
pub mod Verdicts

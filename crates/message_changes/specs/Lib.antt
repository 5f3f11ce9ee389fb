pub mod Exact
pub mod Judging
pub mod Reasons

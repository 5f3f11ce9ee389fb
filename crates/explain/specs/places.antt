pub mod Verdict
pub mod Place

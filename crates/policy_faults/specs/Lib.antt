pub mod Findings
pub mod walk

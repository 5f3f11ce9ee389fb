pub mod Subject
pub mod Fault
pub mod Outside
pub mod Shape
pub mod Equal
pub mod Fingerprint
pub mod texts
pub mod pattern_groups

pub mod Wildcards
pub mod Template
pub mod Text
pub mod Fault

pub mod Fault
pub mod Laws
pub mod Lines
pub mod Path
pub mod Reason
pub mod places

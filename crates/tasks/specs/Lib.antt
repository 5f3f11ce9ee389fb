pub mod Fault
pub mod Check
pub mod Explaining
pub mod Tasks
pub mod Run

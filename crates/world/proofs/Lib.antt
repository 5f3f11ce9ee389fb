pub mod Applied
pub mod Dropping
pub mod Losing
pub mod Publishing
pub mod Reasons
pub mod Subscribing
pub mod Handed

pub mod Blocked
pub mod Connections
pub mod Queues
pub mod Fresh
pub mod pacing
pub mod turns

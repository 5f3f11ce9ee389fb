pub mod Replies
pub mod Plans
pub mod pending

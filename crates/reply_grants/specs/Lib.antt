pub mod Grants
pub mod Window
pub mod Replies
pub mod Looked

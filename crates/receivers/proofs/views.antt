pub mod Marked
pub mod Seen
pub mod Tests

pub mod Boards
pub mod Counts
pub mod Tallies
pub mod texts

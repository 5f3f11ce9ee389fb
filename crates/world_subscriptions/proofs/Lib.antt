pub mod Entries
pub mod Ends
pub mod Counting
pub mod Apart
pub mod Indexed
pub mod Known
pub mod BySid
pub mod Shuffled

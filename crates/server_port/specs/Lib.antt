pub mod Courses
pub mod Histories
pub mod Ends
pub mod Points
pub mod Holds

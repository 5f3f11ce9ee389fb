pub mod Delivering
pub mod Views
pub mod Together
pub mod Drawn
pub mod Publishing
pub mod Alone
pub mod Remembered

pub mod Views
pub mod Across
pub mod Rows
pub mod Laws

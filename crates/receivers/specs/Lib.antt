pub mod views
pub mod cache

pub mod Routes
pub mod Tables
pub mod Laws
pub mod service_rows

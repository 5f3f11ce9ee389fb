pub mod routing
pub mod grants

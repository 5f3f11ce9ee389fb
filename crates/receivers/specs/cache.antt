pub mod Key
pub mod Drawn
pub mod Cached
pub mod Small

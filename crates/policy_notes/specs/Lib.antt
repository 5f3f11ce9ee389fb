pub mod Places
pub mod Twins
pub mod Notes
pub mod positions
pub mod paths

pub mod Places
pub mod Changes
pub mod Plans
pub mod Text

pub mod Policy
pub mod Place
pub mod Tables
pub mod Values
pub mod Mapped
pub mod Standing
pub mod Written
pub use Rattle.policy_permissions.specs.Entry

pub mod Entering
pub mod Audits
pub mod desk
pub use Rattle.hub.specs.Segments

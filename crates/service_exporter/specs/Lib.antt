pub mod Routes
pub mod Limit
pub mod Slots
pub mod Tally
pub use Rattle.service_exporter.specs.service_subjects.Names
pub mod service_subjects

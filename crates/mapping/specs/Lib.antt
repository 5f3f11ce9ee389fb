pub mod Pairs
pub mod Fault
pub mod Laws
pub mod Sides
pub use Rattle.mapping.specs.templates.Template
pub use Rattle.mapping.specs.templates.Text
pub mod templates
pub mod one_way

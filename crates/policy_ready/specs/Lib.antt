pub mod Users
pub mod imports
pub use Rattle.account_mappings.specs.Drawing
pub use Rattle.account_mappings.specs.declared.drawing.Mapped

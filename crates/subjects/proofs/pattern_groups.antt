pub mod Fronts
pub mod Linked
pub mod Search
pub mod Found
pub mod Literal
pub mod Hashed

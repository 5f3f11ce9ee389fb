pub mod Behind
pub mod Left

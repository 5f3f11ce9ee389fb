pub mod Blanks
pub mod Pieces
pub mod Number
pub mod decimal

pub mod Texts
pub mod Tree
pub mod Pairs

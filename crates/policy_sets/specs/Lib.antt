pub mod Sets
pub mod Firsts
pub mod Lines
pub mod parts

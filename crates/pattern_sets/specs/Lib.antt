pub mod Asking
pub mod Judging
pub mod Laws
pub mod Longest
pub mod Samples
pub mod Sets

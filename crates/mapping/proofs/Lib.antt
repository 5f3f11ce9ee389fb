pub mod Filling
pub mod Orders
pub mod Texts
pub mod Pairs
pub mod Carries
pub mod Made

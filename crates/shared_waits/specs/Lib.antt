pub mod Charges
pub mod Patience
pub mod Waiting
pub mod receipts
pub mod runs

pub mod Crossing
mod Entered
mod Genuine
mod Offered

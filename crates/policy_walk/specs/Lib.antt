pub mod Fault
pub mod Path
pub mod Object
pub mod Texts
pub mod Durations
pub mod Lists

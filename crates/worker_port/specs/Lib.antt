pub mod fault

pub mod Fault
pub mod OneWay

pub mod Read
pub mod Opts
pub mod Info

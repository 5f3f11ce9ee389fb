pub mod Texts
pub mod Errors
pub mod connect_opts

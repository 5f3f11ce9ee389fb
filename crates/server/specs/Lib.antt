pub mod Policies
pub mod Serve
pub mod policy_source

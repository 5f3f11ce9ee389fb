pub mod mappings
pub mod rows
pub mod account_config
pub mod reload

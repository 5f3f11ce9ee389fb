pub mod Accounts
pub mod Imports
pub mod Document
pub mod Faults
pub mod exports
pub mod permission_doc

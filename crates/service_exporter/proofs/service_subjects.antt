pub mod Tokens

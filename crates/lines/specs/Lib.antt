pub mod reload_lines
pub mod script_text

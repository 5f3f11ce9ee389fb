mod Adding
mod Pulled

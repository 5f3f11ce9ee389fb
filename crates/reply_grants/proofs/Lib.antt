mod Entries
mod Places
mod Drops
mod Trims
mod Copied

mod Lists
mod Seen
mod Reaching
mod Within
mod Denying
mod Reloading

mod Pushed
mod Joined
mod Least
mod Before

mod Finished
mod Gathered
mod Posted
mod Reading
mod Runs
mod Told

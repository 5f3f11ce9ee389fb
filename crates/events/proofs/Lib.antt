mod Posted
mod Elements

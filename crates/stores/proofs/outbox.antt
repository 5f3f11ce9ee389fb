mod Batches
mod Copies
mod Fronts
mod Parts

mod Verdicts
mod Offering
mod Weights

mod Maps
mod Own

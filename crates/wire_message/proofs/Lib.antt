pub mod PartLemmas
mod RunLemmas
pub mod StoredLemmas

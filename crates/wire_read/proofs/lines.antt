pub mod FieldLemmas
pub mod PlaceLemmas
pub mod LineLemmas

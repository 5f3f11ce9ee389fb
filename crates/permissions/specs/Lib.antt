pub mod Lists
pub mod Verdicts
pub mod Looked
pub mod Indexes
pub mod verdict_cache
pub mod deny_marks

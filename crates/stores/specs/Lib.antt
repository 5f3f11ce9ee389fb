pub mod numbered_slots
pub mod slot_cache
pub mod outbox

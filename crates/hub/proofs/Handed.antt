-- What crates above hub use of records.
pub use Rattle.records.proofs.history.History.TheSendSync.{the_send as history_send}

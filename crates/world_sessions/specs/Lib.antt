pub mod Renewal
pub mod deliveries
pub mod leniency
pub use Rattle.reply_grants.specs.Grants
pub use Rattle.reply_grants.specs.Replies
pub use Rattle.reply_grants.specs.declared.replies.Note

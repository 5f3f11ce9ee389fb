pub mod DeliveryRuns
pub mod Met
pub mod Offers
pub mod Refusals
pub mod Runs
pub mod Sendings
pub mod Waiting
pub use Rattle.messages.specs.Messages

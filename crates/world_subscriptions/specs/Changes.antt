-- A change of one subscription, by its id.
use Rattle.std.specs.Prelude.{◌==◌, ℕ, if◌then◌else◌}
use Rattle.world_rows.specs.declared.subscription.Subscription.{Subscription}
pub use Rattle.world_rows.specs.Changes.{bumped, capped, is_id}

abbrev pub only : (Subscription → Subscription) → ℕ → Subscription → Subscription
only f id s = if s.id == id then f s else s

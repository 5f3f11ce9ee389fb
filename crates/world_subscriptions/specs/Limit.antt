-- What subscriptions have received, and the limits that their clients have set (docs/GUARANTEE.md, "Limits of
-- subscriptions"; NATS documentation, "Client Protocol", UNSUB).
use Rattle.std.specs.Prelude.{◌+◌, ◌&&◌, ℕ, List, Bool, false, Option, Some, if◌then◌else◌, filter, not, nat_lt}
use Rattle.std.specs.List.{list_any}
use Rattle.world_rows.specs.declared.subscription.Subscription.{Subscription}
use Rattle.world_subscriptions.specs.Subscriptions.{is_under}
use Rattle.events.specs.declared.answer.Item.{Item}
use Rattle.events.specs.declared.answer.Item.TheVariants.{Entered, Full, RouteFull, MapTooLong, Unmapped, MappedTooLong}
pub use Rattle.world_rows.specs.Limit.{is_reached, has_ended, limit_of}

-- those that have not ended
abbrev pub unended : List Subscription → List Subscription
unended subs = filter (λ (sub : Subscription). not (has_ended sub)) subs

-- whether an item tells that a message has entered for a subscription
abbrev pub is_entry_for : Subscription → Item → Bool
is_entry_for sub (Entered conn sid) = is_under conn sid sub
is_entry_for sub (Full conn sid) = false
is_entry_for sub (RouteFull row) = false
is_entry_for sub (MapTooLong row) = false
is_entry_for sub Unmapped = false
is_entry_for sub (MappedTooLong index) = false

abbrev pub has_entered : List Item → Subscription → Bool
has_entered items sub = list_any (is_entry_for sub) items

-- a subscription counts a message that has entered for it; the count stays at 2^64 - 1
abbrev pub counted : List Item → Subscription → Subscription
counted items sub =
    if has_entered items sub && nat_lt sub.received 18446744073709551615 then record sub { received = sub.received + 1 } else sub

-- the connection's subscription of that id takes a limit, in place of an earlier one
abbrev pub limited : ℕ → List ℕ → Option ℕ → Subscription → Subscription
limited conn sid most sub = if is_under conn sid sub then record sub { most = Some (limit_of most) } else sub

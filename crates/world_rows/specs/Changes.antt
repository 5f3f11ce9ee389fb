-- What becomes of one subscription, and the test of its id.
use Rattle.std.specs.Prelude.{◌+◌, ℕ, Bool, Option, Some, if◌then◌else◌, nat_lt}
use Rattle.std.specs.Ordering.{nat_cmp}
use Rattle.std.specs.BTreeMap.{is_at}
use Rattle.world_rows.specs.Limit.{limit_of}
use Rattle.world_rows.specs.declared.subscription.Subscription.{Subscription}

-- one message more; the count stays at 2^64 - 1
abbrev pub bumped : Subscription → Subscription
bumped s = if nat_lt s.received 18446744073709551615 then record s { received = s.received + 1 } else s

-- with a limit, in place of an earlier one
abbrev pub capped : Option ℕ → Subscription → Subscription
capped most s = record s { most = Some (limit_of most) }

-- the test of a key
abbrev pub is_id : ℕ → ℕ → Bool
is_id id = is_at (nat_cmp id)

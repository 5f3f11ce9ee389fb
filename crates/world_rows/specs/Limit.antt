-- The limit of a subscription (docs/GUARANTEE.md, "Limits of subscriptions"; NATS documentation, "Client Protocol",
-- UNSUB).
use Rattle.std.specs.Prelude.{ℕ, Bool, false, Option, Some, None, nat_le}
use Rattle.world_rows.specs.declared.subscription.Subscription.{Subscription}

-- whether a limit, where there is one, is reached
abbrev pub is_reached : Option ℕ → ℕ → Bool
is_reached None received = false
is_reached (Some most) received = nat_le most received

-- a subscription has ended when it has received as many messages as it is to receive
abbrev pub has_ended : Subscription → Bool
has_ended sub = is_reached sub.most sub.received

-- an end without a number is one at once, as after none
abbrev pub limit_of : Option ℕ → ℕ
limit_of None = 0
limit_of (Some most) = most

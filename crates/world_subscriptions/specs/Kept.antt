-- What is kept of subscriptions under their ids.
use Rattle.std.specs.Prelude.{◌≡◌, ◌<◌, ℕ, List, [], ◌∷◌, false}
use Rattle.world_subscriptions.specs.Limit.{has_ended}
use Rattle.world_subscriptions.specs.Subscriptions.{is_under}
use Rattle.world_rows.specs.declared.subscription.Subscription.{Subscription}

-- every key is above a number
unfoldable pub IsAbove : ℕ → List (ℕ × Subscription) → Type 0
IsAbove n [] = Unit {0}
IsAbove n (e ∷ es) = (n < e.0) × IsAbove n es

-- each is under its id, none has ended, and the ids rise
unfoldable pub IsKept : List (ℕ × Subscription) → Type 0
IsKept [] = Unit {0}
IsKept (e ∷ es) = (e.1.id ≡ e.0) × (has_ended e.1 ≡ false) × IsAbove e.0 es × IsKept es

-- the ids behind one rise above its own, and none has its connection and sid
abbrev pub NoneLike : Subscription → List Subscription → Type 0
NoneLike s [] = Unit {0}
NoneLike s (r ∷ rs) = (s.id < r.id) × (is_under r.conn r.sid s ≡ false) × NoneLike s rs

unfoldable pub Apart : List Subscription → Type 0
Apart [] = Unit {0}
Apart (s ∷ subs) = NoneLike s subs × Apart subs

-- Whom of those that may be sent a message queue groups leave (NATS documentation, "Queue Groups"; docs/GUARANTEE.md,
-- "Delivery").
use Rattle.std.specs.Prelude.{◌==◌, ℕ, List, Bool, true, false, Option, Some, None, filter}
use Rattle.subjects.specs.Subject.{Token, text_of}
use Rattle.world_subscriptions.specs.queue_choice.Choices.{same_name, chosen}
use Rattle.world_rows.specs.declared.subscription.Subscription.{Subscription}

-- whether a subscription is of the queue group of that name, whatever its pattern
abbrev pub is_named : List ℕ → Option (List Token) → Bool
is_named name None = false
is_named name (Some queue) = same_name name (text_of queue)

abbrev pub is_member : List ℕ → Subscription → Bool
is_member name sub = is_named name sub.queue

-- the members of a queue group, oldest first
abbrev pub members : List ℕ → List Subscription → List Subscription
members name subs = filter (is_member name) subs

-- whether a subscription is this one
abbrev pub is_the : Option Subscription → Subscription → Bool
is_the None sub = false
is_the (Some one) sub = one.id == sub.id

-- A plain subscription is served; of each queue group the member that the word chooses is, and no other.
abbrev pub is_served_by : ℕ → List Subscription → Subscription → Option (List Token) → Bool
is_served_by word subs sub None = true
is_served_by word subs sub (Some queue) = is_the (chosen word (members (text_of queue) subs)) sub

abbrev pub is_served : ℕ → List Subscription → Subscription → Bool
is_served word subs sub = is_served_by word subs sub sub.queue

-- of the admitted the plain ones and the chosen members, oldest first
abbrev pub served : ℕ → List Subscription → List Subscription
served word subs = filter (is_served word subs) subs

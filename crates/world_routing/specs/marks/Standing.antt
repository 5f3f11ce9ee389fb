-- The marks of what is to stand, and the ids of what stands (docs/POLICY.md, "Delivery").
use Rattle.std.specs.Prelude.{◌≡◌, ℕ, List, Option, Some, None, map}
use Rattle.permissions.specs.deny_marks.Marks.{marks_for}
use Rattle.permissions.specs.declared.deny_marks.marks.Marks.{Marks}
use Rattle.world_sessions.specs.declared.deliveries.session.Session.{Session}
use Rattle.world_rows.specs.declared.subscription.Subscription.{Subscription}
use Rattle.world_subscriptions.specs.declared.new_subscription.NewSubscription.{NewSubscription}

-- the ids of subscriptions
abbrev pub ids_of : List Subscription → List ℕ
ids_of subs = map (λ (s : Subscription). s.id) subs

-- these are the marks of what a session's connection is to have, by the lists of its user
abbrev pub AreMarksFor : Marks → NewSubscription → Option Session → Type 0
AreMarksFor marks wanted None = Unit {0}
AreMarksFor marks wanted (Some z) = marks ≡ marks_for z.user.rules wanted.subject wanted.queue

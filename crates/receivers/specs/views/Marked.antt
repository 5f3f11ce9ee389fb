-- Who may be sent a message, by deny marks (docs/POLICY.md, "Delivery").
use Rattle.std.specs.Prelude.{◌&&◌, ℕ, List, Bool, false, Option, Some, None, All}
use Rattle.subjects.specs.Subject.{Token}
use Rattle.world_sessions.specs.deliveries.Sessions.{session_of}
use Rattle.world_sessions.specs.declared.deliveries.session.Session.{Session}
use Rattle.world_rows.specs.declared.subscription.Subscription.{Subscription}
use Rattle.permissions.specs.deny_marks.Marks.{admits_by}
use Rattle.permissions.specs.deny_marks.Table.{marks_at, IsMarked}
use Rattle.permissions.specs.declared.deny_marks.marks.Marks.{Marks}
use Rattle.receivers.specs.views.Open.{may_hear}

-- a table has the marks of a subscription, by the lists of its session's user
abbrev pub IsMarkedBy : List (ℕ × Marks) → Subscription → Option Session → Type 0
IsMarkedBy table sub None = Unit {0}
IsMarkedBy table sub (Some z) = IsMarked table sub.id z.user.rules sub.subject sub.queue

-- it has those of all that stand
abbrev pub AreMarked : List Session → List Subscription → List (ℕ × Marks) → Type 0
AreMarked zs subs table = All (λ (sub : Subscription). IsMarkedBy table sub (session_of zs sub.conn)) subs

-- the marks let the subject through to a subscription of a session
abbrev pub lets_marked : List (ℕ × Marks) → List Token → Subscription → Option Session → Bool
lets_marked table s sub None = false
lets_marked table s sub (Some z) = admits_by (marks_at table sub.id) z.user.rules s sub.queue

-- whether a subscription may be sent a message of the publisher on the subject, by its marks
abbrev pub is_marked_open : List (ℕ × Marks) → List Session → Session → List Token → Subscription → Bool
is_marked_open table zs publisher s sub = may_hear publisher sub.conn && lets_marked table s sub (session_of zs sub.conn)

-- The marks of what stands under another policy (docs/POLICY.md, "Delivery").
use Rattle.std.specs.Prelude.{◌≡◌, ℕ, List, Option, Some, None}
use Rattle.policy_doc.specs.declared.document.PolicyDoc.{PolicyDoc}
use Rattle.policy_ready.specs.declared.ready.User.{User}
use Rattle.permissions.specs.deny_marks.Marks.{marks_for}
use Rattle.permissions.specs.deny_marks.Table.{IsMarked}
use Rattle.permissions.specs.declared.deny_marks.marks.Marks.{Marks}
use Rattle.world_sessions.specs.deliveries.Sessions.{session_of}
use Rattle.world_sessions.specs.declared.deliveries.session.Session.{Session}
use Rattle.world_sessions.specs.Renewal.{user_again_of}
use Rattle.world_rows.specs.declared.subscription.Subscription.{Subscription}

-- whom a session that stays acts for
abbrev pub user_after : PolicyDoc → Option Session → Option User
user_after doc None = None
user_after doc (Some z) = user_again_of doc z

-- a table has the marks of a subscription, by the lists of a user
abbrev pub IsMarkedFor : List (ℕ × Marks) → Subscription → Option User → Type 0
IsMarkedFor table sub None = Unit {0}
IsMarkedFor table sub (Some u) = IsMarked table sub.id u.rules sub.subject sub.queue

-- by those of the user for whom its session will act
abbrev pub IsMarkedAgain : PolicyDoc → List Session → List (ℕ × Marks) → Subscription → Type 0
IsMarkedAgain doc zs table sub = IsMarkedFor table sub (user_after doc (session_of zs sub.conn))

-- these are its marks by those lists, or none where its session goes
abbrev pub AreMarksAgain : Marks → Subscription → Option User → Type 0
AreMarksAgain marks sub None = Unit {0}
AreMarksAgain marks sub (Some u) = marks ≡ marks_for u.rules sub.subject sub.queue

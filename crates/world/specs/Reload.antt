-- A reload: what becomes of the sessions and the subscriptions when another policy comes into force
-- (docs/GUARANTEE.md, "A reload").
use Rattle.std.specs.Prelude.{◌≡◌, ◌+◌, List, Bool, true, false, Option, Some, None, if◌then◌else◌, filter, All, AllPairs, IfSome}
use Rattle.std.specs.List.{filter_map}
use Rattle.policy_doc.specs.Accounts.{IsByName}
use Rattle.policy_doc.specs.Document.{IsValidPolicy}
use Rattle.policy_doc.specs.declared.document.PolicyDoc.{PolicyDoc}
use Rattle.permissions.specs.Verdicts.{subscribe_verdict, is_allowed, IsJustifiedSubscribe}
use Rattle.permissions.specs.declared.verdict.Verdict.{Verdict}
use Rattle.policy_ready.specs.declared.ready.User.{User}
use Rattle.events.specs.declared.answer.Removed.{Removed}
use Rattle.events.specs.declared.answer.Outcome.{Outcome}
use Rattle.events.specs.declared.answer.Outcome.TheVariants.{Reloaded}
use Rattle.world_sessions.specs.deliveries.Sessions.{session_of}
use Rattle.world_sessions.specs.Renewal.{remaining, closed_conns, HaveOneUser}
use Rattle.world_sessions.specs.declared.deliveries.session.Session.{Session}
use Rattle.world_rows.specs.declared.subscription.Subscription.{Subscription}
use Rattle.service_routes.specs.Routes.{kept, pruned}
use Rattle.service_routes.specs.service_rows.Rows.{renewed}
use Rattle.world_routing.specs.World.{World}
pub use Rattle.world_routing.specs.marks.Again.{user_after}

-- the verdict on a subscription, with its queue, where there is a user
abbrev pub verdict_for : Option User → Subscription → Option Verdict
verdict_for None sub = None
verdict_for (Some u) sub = Some (subscribe_verdict u.rules sub.subject sub.queue)

-- the verdict of the policy on a subscription, if its session stays
abbrev pub verdict_after : PolicyDoc → List Session → Subscription → Option Verdict
verdict_after doc zs sub = verdict_for (user_after doc (session_of zs sub.conn)) sub

-- a subscription stands on where its session stays and may have it
abbrev pub may_stand : Option Verdict → Bool
may_stand None = false
may_stand (Some v) = is_allowed v

abbrev pub stands_on : PolicyDoc → List Session → Subscription → Bool
stands_on doc zs sub = may_stand (verdict_after doc zs sub)

-- whom a session acts for, and what the policy in force says of one of its subscriptions
abbrev pub user_before : Option Session → Option User
user_before None = None
user_before (Some z) = Some z.user

abbrev pub verdict_before : List Session → Subscription → Option Verdict
verdict_before zs sub = verdict_for (user_before (session_of zs sub.conn)) sub

-- the policy in force refuses none of these subscriptions
abbrev pub AllMayStand : List Session → List Subscription → Type 0
AllMayStand zs subs = All (λ (sub : Subscription). may_stand (verdict_before zs sub) ≡ true) subs

-- what a reload takes for granted: sessions of one user's name act for one user, who may have their subscriptions
abbrev pub AreEntitled : List Session → List Subscription → Type 0
AreEntitled zs subs = AllPairs HaveOneUser zs × AllMayStand zs subs

-- a subscription that a session has lost by this verdict
abbrev pub removed_by : Subscription → Verdict → Removed
removed_by sub v = record { id = sub.id; conn = sub.conn; subject = sub.subject; queue = sub.queue; sid = sub.sid; verdict = v }

-- what is reported of a subscription: its removal, where its session stays and may not have it
abbrev pub removal : Subscription → Option Verdict → Option Removed
removal sub None = None
removal sub (Some v) = if is_allowed v then None else Some (removed_by sub v)

abbrev pub removal_after : PolicyDoc → List Session → Subscription → Option Removed
removal_after doc zs sub = removal sub (verdict_after doc zs sub)

-- ---- the step

-- the policy comes into force, the next epoch begins, and outboxes stay as they are; grants stay that are live under the
-- terms before and those after, and so do routes whose row the policy has again
abbrev pub reloaded : World → PolicyDoc → Outcome × World
reloaded w doc = (
  Reloaded (closed_conns doc w.sessions) (filter_map (removal_after doc w.sessions) w.subscriptions),
  record w {
    policy = doc;
    epoch = w.epoch + 1;
    sessions = remaining w.moment doc w.sessions;
    subscriptions = filter (stands_on doc w.sessions) w.subscriptions;
    routes = pruned w.moment (kept (renewed w.policy doc) w.routes);
  },
)

-- the verdict on a subscription, if its session stays, has its reason in the lists of the user
abbrev pub IsReasonedVerdict : PolicyDoc → List Session → Subscription → Type 0
IsReasonedVerdict doc zs sub =
    IfSome (user_after doc (session_of zs sub.conn)) (λ (u : User). IsJustifiedSubscribe sub.subject sub.queue u.rules.subscribe (subscribe_verdict u.rules sub.subject sub.queue))

-- a valid policy, which has each account once, and a reason for each verdict
abbrev pub IsReasonedReload : PolicyDoc → List Session → List Subscription → Type 0
IsReasonedReload doc zs subs = IsValidPolicy doc × IsByName doc.accounts × All (IsReasonedVerdict doc zs) subs

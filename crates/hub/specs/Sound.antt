-- What holds of the world of every hub (docs/GUARANTEE.md, "What always holds").
use Rattle.std.specs.Prelude.{◌≡◌, ◌≢◌, ◌+◌, ◌-◌, ◌^◌, ◌<◌, ◌≤◌, ℕ, List, Bool, true, false, Option, Some, None, length, All, AllPairs, IsSomeAnd, nat_lt}
use Rattle.std.specs.Option.{option_map}
use Rattle.subjects.specs.Subject.{Token}
use Rattle.policy_doc.specs.Accounts.{IsByName}
use Rattle.policy_doc.specs.Document.{IsValidPolicy}
use Rattle.policy_doc.specs.declared.document.PolicyDoc.{PolicyDoc}
use Rattle.permissions.specs.Verdicts.{subscribe_verdict, is_allowed, IsJustifiedSubscribe}
use Rattle.permissions.specs.declared.verdict.By.{By}
use Rattle.permissions.specs.declared.verdict.Verdict.TheVariants.{Allowed}
use Rattle.policy_ready.specs.Users.{user_named}
use Rattle.policy_ready.specs.declared.ready.User.{User}
use Rattle.service_exporter.specs.Routes.{Exporter}
use Rattle.service_routes.specs.Routes.{Name}
use Rattle.world_sessions.specs.deliveries.Sessions.{session_of}
use Rattle.world_sessions.specs.declared.deliveries.session.Session.{Session}
use Rattle.world_subscriptions.specs.Subscriptions.{is_under, of_connection}
use Rattle.world_rows.specs.declared.subscription.Subscription.{Subscription}
use Rattle.world.specs.World.{World}
use Rattle.hub.specs.Kept.{IsKeptTable}
use Rattle.hub.specs.Routes.{AreRouted, EachRoute, IsOfRow}

-- the user that a session acts for: whom the policy has under the name of the session's user
abbrev pub user_behind : PolicyDoc → Option Session → Option User
user_behind doc None = None
user_behind doc (Some z) = user_named doc z.user.user

-- the user that a connection acts for, as the policy in force has it
abbrev pub user_at : World → ℕ → Option User
user_at w conn = user_behind w.policy (session_of w.sessions conn)

-- the account of a user, if there is one
abbrev pub account_of : Option User → Option (List ℕ)
account_of u = option_map (λ (v : User). v.account) u

-- whether a user may subscribe to a pattern, as a member of a queue group or of none
abbrev pub may_subscribe : Option User → List Token → Option (List Token) → Bool
may_subscribe None p queue = false
may_subscribe (Some u) p queue = is_allowed (subscribe_verdict u.rules p queue)

-- There is a user who may subscribe to the pattern, as a member of that queue group or of none, and the allowance has
-- its reason in the user's lists: no deny entry that is for it has all of the pattern, and no allow list is given, or
-- the entry that is named is the least that may allow it.
abbrev pub HasAllowance : Option User → List Token → Option (List Token) → Type 0
HasAllowance user p queue = IsSomeAnd user (λ (u : User). (by : By) × IsJustifiedSubscribe p queue u.rules.subscribe (Allowed by))

-- whether a subscription is still to receive: it has no limit, or has received fewer messages
abbrev pub is_below : Option ℕ → ℕ → Bool
is_below None received = true
is_below (Some most) received = nat_lt received most

abbrev pub is_to_receive : Subscription → Bool
is_to_receive s = is_below s.most s.received

-- whether two subscriptions have the same connection and sid
abbrev pub has_same_sid : Subscription → Subscription → Bool
has_same_sid s t = is_under t.conn t.sid s

-- What every hub keeps: from its opening, through each step.
pub record IsSound (w : World) : Type 0 where
  -- the policy in force is valid
  pub policy : IsValidPolicy w.policy
  -- and has each account once, in the order of their names
  pub names : IsByName w.policy.accounts
  -- at most 4,096 sessions stand
  pub limit : length w.sessions ≤ 4096
  -- no connection has two sessions
  pub connections : AllPairs (λ (y z : Session). y.conn ≢ z.conn) w.sessions
  -- the user of a session is, with its account and permissions, whom the policy in force has under its name
  pub users : All (λ (z : Session). user_named w.policy z.user.user ≡ Some z.user) w.sessions
  -- an outbox holds no more than the hub's capacity
  pub outboxes : All (λ (z : Session). (z.outbox.capacity ≡ w.capacity) × (length z.outbox.waiting ≤ w.capacity)) w.sessions
  -- the grants of a session: none without terms; at most 1,024, of different subjects, in the order in which they were
  -- noted, none after the kept moment, and each with a response left
  pub grants : All (λ (z : Session). IsKeptTable w.moment z.user.rules.allow_responses z.replies) w.sessions
  -- the policy in force refuses no standing subscription: its connection has a session, whose user may have it
  pub subscriptions : All (λ (s : Subscription). may_subscribe (user_at w s.conn) s.subject s.queue ≡ true) w.subscriptions
  -- and it has its reason
  pub reasons : All (λ (s : Subscription). HasAllowance (user_at w s.conn) s.subject s.queue) w.subscriptions
  -- each is of the account that its connection's user has in the policy in force
  pub accounts : All (λ (s : Subscription). account_of (user_at w s.conn) ≡ Some s.account) w.subscriptions
  -- each is still to receive: none has received as many messages as it was to
  pub limits : All (λ (s : Subscription). is_to_receive s ≡ true) w.subscriptions
  -- none has counted more than 2^64 - 1
  pub counts : All (λ (s : Subscription). s.received ≤ 2 ^ 64 - 1) w.subscriptions
  -- no connection has two of one sid
  pub sids : AllPairs (λ (s t : Subscription). has_same_sid s t ≡ false) w.subscriptions
  -- no connection has more than 4,096 standing subscriptions
  pub quotas : (conn : ℕ) → length (of_connection conn w.subscriptions) ≤ 4096
  -- their ids rise, and none is above the last number
  pub ids : AllPairs (λ (s t : Subscription). s.id < t.id) w.subscriptions
  pub numbers : All (λ (s : Subscription). s.id ≤ w.number) w.subscriptions
  -- the response routes of each exporter: at most 65,536, each of which lives, with numbers that rise
  pub routes : All (λ (e : Name × Exporter). AreRouted w.moment e.1) w.routes
  -- each is for a service row of the policy in force, on the terms that it has there
  pub rows : EachRoute (IsOfRow w.policy) w.routes
  -- the epoch, 1 at the opening, rises no faster than the number
  pub epoch : w.epoch ≤ w.number + 1

-- What a receipt holds, and what it keeps of it (docs/GUARANTEE.md, "Threads").
use Rattle.std.specs.Prelude.{◌==◌, ◌&&◌, Bool, true, false, not, is_some}
use Rattle.std.specs.List.{list_any}
use Rattle.policy_doc.specs.declared.document.PolicyDoc.{PolicyDoc}
use Rattle.permissions.specs.Verdicts.{publish_verdict, subscribe_verdict, is_allowed}
use Rattle.permissions.specs.declared.verdict.By.{By}
use Rattle.permissions.specs.declared.verdict.By.TheVariants.{All as AllowsAll, Index, Grant}
use Rattle.permissions.specs.declared.verdict.Verdict.{Verdict}
use Rattle.permissions.specs.declared.verdict.Verdict.TheVariants.{Allowed, DeniedBy, NoAllow, NoQueueAllow}
use Rattle.policy_ready.specs.Users.{users_of}
use Rattle.policy_ready.specs.declared.ready.User.{User}
use Rattle.events.specs.declared.event.Command.{Command}
use Rattle.events.specs.declared.event.Command.TheVariants.{Sub, Pub}
use Rattle.events.specs.declared.answer.Outcome.{Outcome}
use Rattle.events.specs.declared.answer.Outcome.TheVariants.{Subscribed, Denied, Published}
use Rattle.events.specs.declared.answer.Entry.{Entry}

-- the entry of an answered event, and the policy in force after it
pub record Receipt : Type 0 where
  pub entry : Entry
  pub policy : PolicyDoc

abbrev pub receipt : Entry → PolicyDoc → Receipt
receipt e doc = record { entry = e; policy = doc }

-- ---- the verdict that an outcome tells

abbrev pub same_by : By → By → Bool
same_by AllowsAll AllowsAll = true
same_by (Index i) (Index j) = i == j
same_by Grant Grant = true
same_by _ _ = false

abbrev pub same_verdict : Verdict → Verdict → Bool
same_verdict (Allowed a) (Allowed b) = same_by a b
same_verdict (DeniedBy i) (DeniedBy j) = i == j
same_verdict NoAllow NoAllow = true
same_verdict (NoQueueAllow i) (NoQueueAllow j) = i == j
same_verdict _ _ = false

-- whether a user has this verdict on what a command asks for; only a Sub and a Pub ask permissions
abbrev pub has_verdict : Command → Verdict → User → Bool
has_verdict (Sub conn p queue sid) v u = same_verdict (subscribe_verdict u.rules p queue) v
has_verdict (Pub conn m word) v u = same_verdict (publish_verdict u.rules m.subject) v
has_verdict _ v u = false

-- whether a user may have the subscription that a command asks for
abbrev pub may_have : Command → User → Bool
may_have (Sub conn p queue sid) u = is_allowed (subscribe_verdict u.rules p queue)
may_have _ u = false

-- whether a user may publish what a command asks for as a response alone: it has terms, and its lists refuse
abbrev pub may_respond : Command → User → Bool
may_respond (Pub conn m word) u = is_some u.rules.allow_responses && not (is_allowed (publish_verdict u.rules m.subject))
may_respond _ u = false

-- Whether the policy has a user whose Pub was allowed by this: by its lists, with that verdict, or as a response.
abbrev pub some_allows : PolicyDoc → Command → By → Bool
some_allows doc c AllowsAll = list_any (has_verdict c (Allowed AllowsAll)) (users_of doc)
some_allows doc c (Index i) = list_any (has_verdict c (Allowed (Index i))) (users_of doc)
some_allows doc c Grant = list_any (may_respond c) (users_of doc)

-- Whether the policy has a user with the verdict that an outcome tells. Subscribed, Denied and Published tell one.
abbrev pub is_of_policy : PolicyDoc → Command → Outcome → Bool
is_of_policy doc c Subscribed = list_any (may_have c) (users_of doc)
is_of_policy doc c (Denied v) = list_any (has_verdict c v) (users_of doc)
is_of_policy doc c (Published by items) = some_allows doc c by
is_of_policy doc c _ = true

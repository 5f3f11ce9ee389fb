-- Verdicts that are remembered from one question to the next. They are those of the policy in force, so nothing that is answered
-- goes by them.
use Rattle.std.specs.Prelude.{◌≡◌, ℕ, List, Option, Some, None, All}
use Rattle.std.specs.Option.{option_map}
use Rattle.subjects.specs.Subject.{tokens_of}
use Rattle.permissions.specs.Lists.{Lists}
use Rattle.permissions.specs.Verdicts.{publish_verdict, subscribe_verdict, delivery_verdict}
use Rattle.permissions.specs.declared.verdict.Verdict.{Verdict}
use Rattle.permissions.specs.declared.verdict.Verdict.TheVariants.{NoAllow}
use Rattle.policy_doc.specs.declared.document.PolicyDoc.{PolicyDoc}
use Rattle.policy_ready.specs.Users.{user_named}
use Rattle.policy_ready.specs.declared.ready.User.{User}
use Rattle.permissions.specs.verdict_cache.Verdicts.{AreJudged, Judgement, Question}
use Rattle.permissions.specs.declared.verdict_cache.asked.Action.{Action}
use Rattle.permissions.specs.declared.verdict_cache.asked.Action.TheVariants.{Publish, Subscribe, Deliver}
use Rattle.permissions.specs.declared.verdict_cache.verdicts.Verdicts.{Verdicts}
use Rattle.world_sessions.specs.declared.deliveries.session.Session.{Session}

-- the verdict of lists on what is asked
abbrev pub by_lists : Lists → Action → List ℕ → Option (List ℕ) → Verdict
by_lists lists Publish text queue = publish_verdict lists (tokens_of text)
by_lists lists Subscribe text queue = subscribe_verdict lists (tokens_of text) (option_map tokens_of queue)
by_lists lists Deliver text queue = delivery_verdict lists (tokens_of text) (option_map tokens_of queue)

-- nobody may do nothing
abbrev pub by_user : Option User → Question → Verdict
by_user None asked = NoAllow
by_user (Some u) asked = by_lists u.rules asked.action asked.text asked.queue

-- the verdict of a policy on what is asked, by the lists of whom it has under the name
abbrev pub judged_by : PolicyDoc → Judgement
judged_by doc asked = by_user (user_named doc asked.user) asked

-- the verdicts that are remembered are the policy's
abbrev pub AreRemembered : PolicyDoc → Verdicts → Type 0
AreRemembered doc verdicts = AreJudged (judged_by doc) verdicts

-- the user of each session is whom the policy has under its name
abbrev pub AreOfPolicy : PolicyDoc → List Session → Type 0
AreOfPolicy doc zs = All (λ (z : Session). user_named doc z.user.user ≡ Some z.user) zs

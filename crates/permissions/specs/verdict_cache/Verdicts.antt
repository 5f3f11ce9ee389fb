-- Verdicts that are kept for when they are asked again.
use Rattle.std.specs.Prelude.{◌≡◌, ◌≤◌, ℕ, List, Option, Some, None, All, IfSome, if◌then◌else◌}
use Rattle.std.specs.Option.{option_copied}
use Rattle.subjects.specs.Subject.{Token, IsSubject, text_of}
use Rattle.permissions.specs.Lists.{Lists}
use Rattle.permissions.specs.Verdicts.{publish_verdict}
use Rattle.permissions.specs.declared.verdict.Verdict.{Verdict}
use Rattle.permissions.specs.declared.verdict_cache.asked.Action.{Action}
use Rattle.permissions.specs.declared.verdict_cache.asked.Action.TheVariants.{Publish}
use Rattle.permissions.specs.declared.verdict_cache.asked.Asked.{Asked}
use Rattle.permissions.specs.declared.verdict_cache.asked.Asking.{Asking}
use Rattle.permissions.specs.declared.verdict_cache.cache.Remembered.{Remembered}
use Rattle.permissions.specs.declared.verdict_cache.cache.VerdictCache.{VerdictCache}
use Rattle.permissions.specs.declared.verdict_cache.verdicts.Verdicts.{Verdicts}

-- what a verdict is on: a user's name, what its permissions are asked for, the text of a subject or a pattern, a queue's name or none
pub record Question : Type 0 where
  pub user : List ℕ
  pub action : Action
  pub text : List ℕ
  pub queue : Option (List ℕ)

abbrev pub asked_of : Asked → Question
asked_of asked = record { user = asked.user.items; action = asked.action; text = asked.text.items; queue = if asked.has_queue then Some asked.queue.items else None }

abbrev pub asked_by : Asking → Question
asked_by asking = record { user = asking.user.now; action = asking.action; text = asking.text.now; queue = option_copied asking.queue }

-- which verdict each question has
abbrev pub Judgement : Type 0
Judgement = Question → Verdict

-- a verdict that is kept isn't of a later epoch, and if it is of this one, its question has it
pub record IsCurrent (verdict_of : Judgement) (epoch : ℕ) (entry : Asked × Remembered) : Type 0 where
  pub no_later : entry.1.epoch ≤ epoch
  pub same : entry.1.epoch ≡ epoch → entry.1.verdict ≡ verdict_of (asked_of entry.0)

-- so is each that is kept
abbrev pub AreCurrent : Judgement → ℕ → VerdictCache → Type 0
AreCurrent verdict_of epoch cache = All (IsCurrent verdict_of epoch) cache.verdicts.entries

-- ---- the verdicts under the policy in force

-- each verdict that is remembered under this policy is its question's
abbrev pub AreJudged : Judgement → Verdicts → Type 0
AreJudged verdict_of verdicts = IfSome verdicts.cache (AreCurrent verdict_of verdicts.epoch)

-- the question of a user's publish
abbrev pub publish_question : List ℕ → List Token → Question
publish_question user subject = record { user = user; action = Publish; text = text_of subject; queue = None }

-- the verdicts on a user's questions are those of these lists
pub record Judges (verdict_of : Judgement) (user : List ℕ) (lists : Lists) : Type 0 where
  pub publish : (subject : List Token) → IsSubject subject → verdict_of (publish_question user subject) ≡ publish_verdict lists subject

-- Where in a policy's text the entry stands that decides a question (docs/POLICY.md, "Explaining a verdict").
use Rattle.std.specs.Prelude.{◌≡◌, ℕ, List, Option, None, Some, string_bytes}
use Rattle.std.specs.Option.{option_and_then}
use Rattle.command_line.specs.Question.{Word}
use Rattle.command_line.specs.declared.question.Question.{Question}
use Rattle.command_line.specs.declared.question.QuestionKind.{QuestionKind}
use Rattle.command_line.specs.declared.question.QuestionKind.TheVariants.{Publish, Subscribe, Delivery, Path}
use Rattle.explain.specs.places.Verdict.{verdict_on}
use Rattle.policy_doc.specs.declared.document.PolicyDoc.{PolicyDoc}
use Rattle.policy_notes.specs.Places.{IsToldOf}
use Rattle.policy_notes.specs.paths.Entries.{entry_path}
use Rattle.policy_notes.specs.paths.Users.{user_path}
use Rattle.policy_permissions.specs.declared.entry.Side.{Side}
use Rattle.policy_permissions.specs.declared.entry.Side.TheVariants as side
use Rattle.policy_walk.specs.Path.{Path as Where}
use Rattle.serde_json.specs.Data.{Data}
use Rattle.serde_json.specs.Read.{read}

-- a publish is decided by the publish lists, all else by those of subscriptions
abbrev pub side_of : QuestionKind → Side
side_of Publish = side.Publish
side_of Subscribe = side.Subscribe
side_of Delivery = side.Subscribe
side_of Path = side.Subscribe

-- the entry that the verdict names
abbrev pub entry_asked : Data → Where → PolicyDoc → Question → Option Where
entry_asked d user doc q = option_and_then (entry_path d user (side_of q.kind)) (verdict_on doc q)

abbrev pub deciding_path : List ℕ → PolicyDoc → Question → Option Where
deciding_path text doc q = option_and_then (λ d. option_and_then (λ user. entry_asked d user doc q) (user_path doc (string_bytes q.who))) (read text)

-- it stands where its path leads
abbrev pub IsPlaceAt : List ℕ → Option Where → Option Word → Type 0
IsPlaceAt text None told = told ≡ None
IsPlaceAt text (Some path) None = ⊥
IsPlaceAt text (Some path) (Some told) = IsToldOf text path (string_bytes told)

abbrev pub IsDecidingPlace : List ℕ → PolicyDoc → Question → Option Word → Type 0
IsDecidingPlace text doc q told = IsPlaceAt text (deciding_path text doc q) told

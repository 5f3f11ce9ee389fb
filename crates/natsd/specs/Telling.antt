-- What is told beside what a task prints, and how much of clients.
use Rattle.std.specs.Prelude.{◌≡◌, ℕ, List, Option, Some, None}
use Rattle.std.specs.Str.{IsUtf8}
use Rattle.command_line.specs.declared.options.LogChoice.{LogChoice}
use Rattle.command_line.specs.declared.options.LogChoice.TheVariants as choice
use Rattle.command_line.specs.declared.question.Question.{Question}
use Rattle.command_line.specs.declared.words.Task.{Task}
use Rattle.command_line.specs.declared.words.Task.TheVariants.{Play, Check, Strict, Sets, Explain, BadKind, BadLog, BadKeepalive, Help, Version}
use Rattle.command_line.specs.Question.{Word}
use Rattle.explain.specs.places.Place.{IsDecidingPlace}
use Rattle.policy_doc.specs.declared.document.PolicyDoc.{PolicyDoc}
use Rattle.server_log.specs.declared.level.LogLevel.{LogLevel}
use Rattle.server_log.specs.declared.level.LogLevel.TheVariants as level

abbrev pub level_of : LogChoice → LogLevel
level_of choice.None = level.None
level_of choice.Denials = level.Denials
level_of choice.All = level.All

-- the question that a task answers
abbrev pub question_of : Task → Option Question
question_of Play = None
question_of Check = None
question_of Strict = None
question_of Sets = None
question_of (Explain question) = Some question
question_of BadKind = None
question_of BadLog = None
question_of BadKeepalive = None
question_of (Help text) = None
question_of (Version text) = None

-- where the entry stands that decides what was asked of a policy's text, if something was
abbrev pub IsPlaceIf : List ℕ → PolicyDoc → Option Question → Option Word → Type 0
IsPlaceIf text doc None place = place ≡ None
IsPlaceIf text doc (Some question) place = IsUtf8 text → IsDecidingPlace text doc question place

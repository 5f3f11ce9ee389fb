-- The question that is asked with `natsd explain` (docs/POLICY.md, "Explaining a verdict"), in the words of clap's contracts.
use Rattle.std.specs.Global.{Global}
use Rattle.std.specs.Prelude.{◌≡◌, List, String, codes, if◌then◌else◌, Option, Some, None, option_map, string_bytes, true}
use Rattle.std.specs.Str.{bytes_eq}
use Rattle.clap.specs.Words.{App, Row, Rule, Text, first_of, new_app, new_rule, with_rule}
use Rattle.command_line.specs.Options.{policy_rule}
pub use Rattle.command_line.specs.Options.{word_at}
use Rattle.command_line.specs.declared.question.Question.{Question}
use Rattle.command_line.specs.declared.question.QuestionKind.{QuestionKind}
use Rattle.command_line.specs.declared.question.QuestionKind.TheVariants.{Publish, Subscribe, Delivery, Path}

-- a word of the command line
abbrev pub Word : Type 0
Word = String Global

-- ---- what it takes

-- a word at its place, and one that has to be there
abbrev pub word_rule : Text → Rule
word_rule id = record (new_rule id) { value_names = 1 }

abbrev pub wanted_rule : Text → Rule
wanted_rule id = record (word_rule id) { required = true }

-- a kind, who is asked about, a subject and maybe a queue; and the policy's file
abbrev pub explain_app : App
explain_app = with_rule (with_rule (with_rule (with_rule (with_rule (new_app (codes "explain")) (wanted_rule (codes "kind"))) (wanted_rule (codes "who"))) (wanted_rule (codes "subject"))) (word_rule (codes "queue"))) policy_rule

-- ---- what its words say

abbrev pub kind_named : Text → Option QuestionKind
kind_named word =
    if bytes_eq word (codes "publish") then Some Publish
    else if bytes_eq word (codes "subscribe") then Some Subscribe
    else if bytes_eq word (codes "delivery") then Some Delivery
    else if bytes_eq word (codes "path") then Some Path
    else None

-- a question of this kind, by the words
pub record IsQuestion (rows : List Row) (named : QuestionKind) (q : Question) : Type 0 where
  pub kind : q.kind ≡ named
  pub who : string_bytes q.who ≡ word_at (codes "who") rows
  pub subject : string_bytes q.subject ≡ word_at (codes "subject") rows
  pub queue : option_map string_bytes q.queue ≡ first_of (codes "queue") rows

-- the question, or none where no kind is named
abbrev pub IsQuestionOf : List Row → Option QuestionKind → Option Question → Type 0
IsQuestionOf rows None asked = asked ≡ None
IsQuestionOf rows (Some kind) None = ⊥
IsQuestionOf rows (Some kind) (Some q) = IsQuestion rows kind q

abbrev pub IsQuestionIf : List Row → Option Question → Type 0
IsQuestionIf rows asked = IsQuestionOf rows (kind_named (word_at (codes "kind") rows)) asked

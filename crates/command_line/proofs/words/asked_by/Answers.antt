-- the question that was read, with the file of its policy
use Rattle.std.proofs.Common.{◌≡◌, List, Option, Some, None, codes, subst}
use Rattle.clap.specs.Words.{Row, found_of, rows_of}
use Rattle.command_line.specs.Files.{policy_file}
use Rattle.command_line.specs.Question.{Word, kind_named, word_at, IsQuestionIf, IsQuestionOf}
use Rattle.command_line.specs.Words.{on_policy, IsAskedBy, IsAskedIf, IsFile}
use Rattle.command_line.specs.declared.question.Question.{Question}
use Rattle.command_line.specs.declared.question.QuestionKind.{QuestionKind}
use Rattle.command_line.specs.declared.words.Invocation.{Invocation}
use Rattle.command_line.specs.declared.words.Task.TheVariants.{Explain}
use Rattle.command_line.proofs.words.asked_by.Goals as goal

by_kind : (rows : List Row) (kind : Option QuestionKind) (question : Question) (file : Option Word) (a : Invocation) → IsQuestionOf rows kind (Some question) → IsFile (policy_file rows) file → a ≡ on_policy (Explain question) file →
    IsAskedIf rows kind a
by_kind rows None question file a h policy e = absurd (cc)
by_kind rows (Some kind) question file a h policy e = (question, file, e, h, policy)

asks : (rows : List Row) (asked : Option Question) (question : Question) (file : Option Word) (a : Invocation) → asked ≡ Some question → IsQuestionIf rows asked → IsFile (policy_file rows) file → a ≡ on_policy (Explain question) file →
    IsAskedBy rows a
asks rows asked question file a is h policy e =
    by_kind rows (kind_named (word_at (codes "kind") rows)) question file a (subst (IsQuestionIf rows) is h) policy e

pub returns-in_ok-policy-in-Some : goal.returns-in_ok-policy-in-Some
returns-in_ok-policy-in-Some c =
    asks (rows_of (found_of c.args.options.now)) _ c.in-Some.question c.in_ok-policy-in-Some.policy c.on_policy.result c.in-Some.is c.in_ok-question_of.ensures c.in_ok-policy-in-Some.ensures c.on_policy.ensures

-- The options that a run hands out are within their bounds.
use Rattle.std.proofs.Common.{◌≡◌, Bool, true, false, inl, inr, List, Option, Some, None, Ok, Err, Result, subst}
use Rattle.clap.specs.Words.{Kinds, Row, Text}
use Rattle.command_line.specs.Options.{AreServable, IsOptions}
use Rattle.command_line.specs.Words.{checking, on_policy, IsAskedIf, IsCheckIf, IsFound, IsInvokedIf, IsReading}
use Rattle.tasks.specs.Run.{IsReadingRun, IsWordsRun, Reads, Writes}
use Rattle.command_line.specs.Question.{Word}
use Rattle.command_line.specs.declared.options.ServeOptions.{ServeOptions}
use Rattle.command_line.specs.declared.question.QuestionKind.{QuestionKind}
use Rattle.command_line.specs.declared.words.Task.{Task}
use Rattle.command_line.specs.declared.words.Task.TheVariants.{Explain}
use Rattle.tasks.specs.declared.status.Ran.{Ran}
use Rattle.tasks.specs.declared.status.Ran.TheVariants as ran
use Rattle.command_line.specs.declared.words.Invocation.{Invocation}
use Rattle.command_line.specs.declared.words.Invocation.TheVariants as invocation
use Rattle.command_line.specs.declared.words.WordsFault.{WordsFault}
use Rattle.command_line.specs.declared.words.WordsFault.TheVariants.{WrongLine, NoMemory}

by_options : (rows : List Row) (o : ServeOptions) → IsOptions rows o → AreServable o
by_options rows o h = record {
  worker = h.workers.at_least;
  workers = h.workers.at_most;
  outbox = h.outbox.at_least;
  outboxes = h.outbox.at_most;
  history = h.history.at_least;
  history_byte = h.history_bytes.at_least;
  connection = h.connections.at_least;
}

no_file : (task : Task) (file : Option Word) (o : ServeOptions) → invocation.Serve o ≡ on_policy task file → ⊥
no_file task None o e = cc
no_file task (Some file) o e = cc

no_question : (kind : Option QuestionKind) (rows : List Row) (o : ServeOptions) → IsAskedIf rows kind (invocation.Serve o) → ⊥
no_question None rows o e = cc
no_question (Some kind) rows o h = no_file (Explain h.0) h.1 o h.2

no_check : (folder : Option Text) (rows : List Row) (o : ServeOptions) → IsCheckIf rows folder (invocation.Serve o) → ⊥
no_check None rows o h = no_file (checking rows) h.0 o h.1
no_check (Some folder) rows o h = let bad : invocation.Serve o ≡ invocation.Split h.0 = h.1 in absurd (cc)

by_serving : (serves explains checks compares : Bool) (rows : List Row) (o : ServeOptions) →
    IsInvokedIf serves explains checks compares rows (invocation.Serve o) → AreServable o
by_serving true explains checks compares rows o h = by_options rows o h
by_serving false true checks compares rows o h = absurd (no_question _ rows o h)
by_serving false false true compares rows o h = absurd (no_check _ rows o h)
by_serving false false false true rows o h = absurd h
by_serving false false false false rows o h = absurd (cc)

by_found : (found : Option (Text × List Row)) (o : ServeOptions) → IsFound found (invocation.Serve o) → AreServable o
by_found None o h = absurd h
by_found (Some found) o h = by_serving _ _ _ _ found.1 o h.1

by_answer : (kinds : Kinds) (found : Option (Text × List Row)) (o : ServeOptions) → IsReading kinds found (Ok (invocation.Serve o)) → AreServable o
by_answer kinds found o (inl h) = by_found found o h.1
by_answer kinds found o (inr h) = absurd h

same_options : (o p : ServeOptions) → ran.Serve o ≡ ran.Serve p → p ≡ o
same_options o p e = cc

by_reading : (kinds : Kinds) (found : Option (Text × List Row)) (read : Result Invocation WordsFault) (source : Reads) (sink errors : Writes) (o : ServeOptions) →
    IsReading kinds found read → IsReadingRun read source sink errors (ran.Serve o) → AreServable o
by_reading kinds found (Ok (invocation.Serve p)) source sink errors o h r = subst AreServable (same_options o p r.0) (by_answer kinds found p h)
by_reading kinds found (Ok (invocation.OnFile task file)) source sink errors o h r = absurd (cc)
by_reading kinds found (Ok (invocation.Split options)) source sink errors o h r = absurd (cc)
by_reading kinds found (Ok (invocation.Compare options)) source sink errors o h r = absurd (cc)
by_reading kinds found (Ok (invocation.Task task)) source sink errors o h r = absurd r
by_reading kinds found (Err fault) source sink errors o h r = by_fault fault r
  where
    by_fault : (f : WordsFault) → IsReadingRun (Err f) source sink errors (ran.Serve o) → AreServable o
    by_fault (WrongLine text) r = absurd r.1
    by_fault NoMemory r = absurd r.1

-- from what a run of the words says
pub by_words : (words : List Text) (source : Reads) (sink errors : Writes) (r : Ran) (o : ServeOptions) → IsWordsRun words source sink errors r → r ≡ ran.Serve o → AreServable o
by_words words source sink errors r o h e =
    let at : IsWordsRun words source sink errors (ran.Serve o) = subst (IsWordsRun words source sink errors) e h in
    by_reading _ _ at.0 source sink errors o at.1 at.2

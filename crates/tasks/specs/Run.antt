-- What the program does with the words of its command line, and its status (docs/SCRIPT.md, "Statuses").
use Rattle.std.specs.Prelude.{◌≡◌, ◌++◌, ◌||◌, ℕ, List, Bool, false, Option, IfSome, Result, Ok, Err, IfOk, OnOk, OnErr, codes}
use Rattle.std.specs.String.{string_bytes}
use Rattle.std.specs.Io.KnownBytes.{Appends}
use Rattle.devices.specs.Device.{AppendsFront}
use Rattle.tasks.specs.Fault.{fault_text, is_read_failed, is_write_failed}
use Rattle.tasks.specs.declared.fault.TaskFault.{TaskFault}
use Rattle.tasks.specs.declared.fault.TaskFault.TheVariants.{ScriptTooLong}
use Rattle.tasks.specs.Tasks.{done_by, input_of, IsLongScript, IsShortScript}
use Rattle.command_line.specs.Words.{found_in, kinds_of, IsReading}
use Rattle.tasks.specs.declared.status.Ran.{Ran}
use Rattle.tasks.specs.declared.status.Ran.TheVariants as ran
use Rattle.tasks.specs.declared.status.StartFault.{StartFault}
use Rattle.tasks.specs.declared.status.StartFault.TheVariants as start
use Rattle.command_line.specs.declared.words.Invocation.{Invocation}
use Rattle.command_line.specs.declared.words.Invocation.TheVariants as invocation
use Rattle.command_line.specs.declared.words.Task.{Task}
use Rattle.command_line.specs.declared.words.WordsFault.{WordsFault}
use Rattle.command_line.specs.declared.words.WordsFault.TheVariants.{WrongLine, NoMemory}

-- what is known of a source: the bytes that were left, and how many reads had given bytes and whether one had failed,
-- before and after
pub record Reads : Type 0 where
  pub left : Option (List ℕ)
  pub reads_before : ℕ
  pub reads_after : ℕ
  pub failed_before : Bool
  pub failed_after : Bool

abbrev pub reads : Option (List ℕ) → ℕ → ℕ → Bool → Bool → Reads
reads left before after failed fails = record { left = left; reads_before = before; reads_after = after; failed_before = failed; failed_after = fails }

-- what is known of a sink: the bytes that it holds, and whether a write has failed, before and after
pub record Writes : Type 0 where
  pub held_before : Option (List ℕ)
  pub held_after : Option (List ℕ)
  pub failed_before : Bool
  pub failed_after : Bool

abbrev pub writes : Option (List ℕ) → Option (List ℕ) → Bool → Bool → Writes
writes before after failed fails = record { held_before = before; held_after = after; failed_before = failed; failed_after = fails }

-- nothing is read
abbrev pub IsUnread : Reads → Type 0
IsUnread r = (r.reads_after ≡ r.reads_before) × (r.failed_after ≡ r.failed_before)

-- nothing is written
abbrev pub IsUnwritten : Writes → Type 0
IsUnwritten w = w.held_after ≡ w.held_before

-- a text is written, or a front of it where the sink fails
abbrev pub IsTold : List ℕ → Writes → Type 0
IsTold text w = (w.failed_after ≡ false → Appends w.held_before w.held_after text) × AppendsFront w.held_before w.held_after text

-- a status with a text on the error sink
abbrev pub IsMistake : ℕ → List ℕ → Writes → ℕ → Type 0
IsMistake wanted text errors status = (status ≡ wanted) × IsTold text errors

-- what came of a task: all of what it writes with its status, or a fault and a front of what it writes
abbrev pub IsAnswer : Task → Reads → Writes → Result ℕ TaskFault → Type 0
IsAnswer task source sink answer =
    IfOk answer (λ status. IfSome (input_of task source.left) (λ input.
    Appends sink.held_before sink.held_after (done_by task input).text × (status ≡ (done_by task input).status)))
    × OnErr answer (IfSome (input_of task source.left) (λ input.
    AppendsFront sink.held_before sink.held_after (done_by task input).text))
    × (source.failed_after ≡ (source.failed_before || is_read_failed answer))
    × (sink.failed_after ≡ (sink.failed_before || is_write_failed answer))
    × OnOk answer (IsShortScript task source.left source.reads_before source.reads_after)
    × (answer ≡ Err ScriptTooLong → IsLongScript task source.left source.reads_before source.reads_after)

-- the status of a task is its own, with nothing on the error sink; a fault is told there, and its status is 1
abbrev pub IsEnding : Result ℕ TaskFault → Writes → ℕ → Type 0
IsEnding (Ok done) errors status = (status ≡ done) × IsUnwritten errors
IsEnding (Err fault) errors status = IsMistake 1 (fault_text fault ++ codes "\n") errors status

abbrev pub IsTaskRun : Task → Reads → Writes → Writes → ℕ → Type 0
IsTaskRun task source sink errors status = (answer : Result ℕ TaskFault) × IsAnswer task source sink answer × IsEnding answer errors status

-- the program has ended, with a status of which this holds
abbrev pub IsEnded : (ℕ → Type 0) → Ran → Type 0
IsEnded P (ran.Ended status) = P status
IsEnded P (ran.OnFile task file) = ⊥
IsEnded P (ran.Split options) = ⊥
IsEnded P (ran.Compare options) = ⊥
IsEnded P (ran.Serve options) = ⊥

-- a task is done; where it is to read a file, or parts are to be written, policies to be compared, or clients are to be served, nothing is done yet; a wrong line is told on the error sink, with
-- status 2, and want of memory with status 1
abbrev pub IsReadingRun : Result Invocation WordsFault → Reads → Writes → Writes → Ran → Type 0
IsReadingRun (Ok (invocation.Task task)) source sink errors r = IsEnded (IsTaskRun task source sink errors) r
IsReadingRun (Ok (invocation.OnFile task file)) source sink errors r = (r ≡ ran.OnFile task file) × IsUnread source × IsUnwritten sink × IsUnwritten errors
IsReadingRun (Ok (invocation.Split options)) source sink errors r = (r ≡ ran.Split options) × IsUnread source × IsUnwritten sink × IsUnwritten errors
IsReadingRun (Ok (invocation.Compare options)) source sink errors r = (r ≡ ran.Compare options) × IsUnread source × IsUnwritten sink × IsUnwritten errors
IsReadingRun (Ok (invocation.Serve options)) source sink errors r = (r ≡ ran.Serve options) × IsUnread source × IsUnwritten sink × IsUnwritten errors
IsReadingRun (Err (WrongLine text)) source sink errors r = IsUnwritten sink × IsEnded (IsMistake 2 (string_bytes text) errors) r
IsReadingRun (Err NoMemory) source sink errors r = IsUnwritten sink × IsEnded (IsMistake 1 (codes "no memory\n") errors) r

-- what the words ask for, as clap judges them
abbrev pub IsWordsRun : List (List ℕ) → Reads → Writes → Writes → Ran → Type 0
IsWordsRun words source sink errors r =
    (read : Result Invocation WordsFault) × IsReading (kinds_of words) (found_in words) read × IsReadingRun read source sink errors r

-- the program could not start
abbrev pub IsFailedStart : StartFault → Writes → Writes → ℕ → Type 0
IsFailedStart start.NotUtf8 sink errors status =
    IsUnwritten sink × IsMistake 2 (codes "error: a word of the command line isn't UTF-8\n") errors status
IsFailedStart start.NoMemory sink errors status = IsUnwritten sink × IsMistake 1 (codes "no memory\n") errors status
IsFailedStart start.NoKeys sink errors status = IsUnwritten sink × IsMistake 1 (codes "no random keys\n") errors status

abbrev pub IsRun : {S : Type 0} → (S → List (List ℕ)) → Result S StartFault → Reads → Writes → Writes → Ran → Type 0
IsRun words (Ok begun) source sink errors r = IsWordsRun (words begun) source sink errors r
IsRun words (Err fault) source sink errors r = IsEnded (IsFailedStart fault sink errors) r

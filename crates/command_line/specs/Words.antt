-- The command line of `natsd` (docs/SCRIPT.md, "Statuses"), in the words of clap's contracts.
use Rattle.std.specs.Prelude.{◌≡◌, ◌⊎◌, ◌||◌, ⊤, ℕ, IsTrue, List, [], Bool, true, false, codes, if◌then◌else◌, Option, Some, None, option_map, Result, Ok, Err, string_bytes}
use Rattle.std.specs.Str.{bytes_eq}
use Rattle.clap.specs.Lexer.{strip_byte}
use Rattle.clap.specs.Words.{App, IsAmong, Kinds, Row, Text, fault_of, first_of, new_app, subcommand_of, with_subcommand}
use Rattle.clap.specs.declared.error.kind.ErrorKind.{ErrorKind}
use Rattle.clap.specs.declared.error.kind.ErrorKind.TheVariants.{DisplayHelp, DisplayVersion, OutOfMemory}
use Rattle.command_line.specs.Comparing.{compare_app, AreCompared}
use Rattle.command_line.specs.Files.{checked_file, policy_file}
use Rattle.command_line.specs.Options.{check_app, is_set, log_named, serve_app, IsKeepalive, IsOptions}
use Rattle.command_line.specs.Question.{Word, explain_app, kind_named, word_at, IsQuestion}
use Rattle.command_line.specs.declared.question.Question.{Question}
use Rattle.command_line.specs.declared.question.QuestionKind.{QuestionKind}
use Rattle.command_line.specs.declared.options.ServeOptions.{ServeOptions}
use Rattle.command_line.specs.declared.options.SplitOptions.{SplitOptions}
use Rattle.command_line.specs.declared.words.Invocation.{Invocation}
use Rattle.command_line.specs.declared.words.Invocation.TheVariants as invocation
use Rattle.command_line.specs.declared.words.Task.{Task}
use Rattle.command_line.specs.declared.words.Task.TheVariants.{Play, Check, Strict, Sets, Explain, BadKind, BadLog, BadKeepalive, Help, Version}
use Rattle.command_line.specs.declared.words.WordsFault.{WordsFault}
use Rattle.command_line.specs.declared.words.WordsFault.TheVariants.{WrongLine, NoMemory}

-- `play` takes nothing of its own; what the others take stands in Options and Question
abbrev pub play_app : App
play_app = new_app (codes "play")

-- a version, no subcommand `help`, and one of the subcommands has to be named
abbrev pub bare_app : App
bare_app = record { top = record (new_app (codes "natsd")).top { has_version = true; disable_help_subcommand = true; subcommand_required = true }; subs = [] }

abbrev pub natsd_app : App
natsd_app =
    with_subcommand (with_subcommand (with_subcommand (with_subcommand (with_subcommand bare_app play_app.top) check_app.top) explain_app.top) compare_app.top) serve_app.top

-- why clap gives no matches for these words: nothing where they are right
abbrev pub kinds_of : List (List ℕ) → Kinds
kinds_of words = fault_of natsd_app words

-- a request is no mistake, nor is want of memory
abbrev pub is_mistake : ErrorKind → Bool
is_mistake DisplayHelp = false
is_mistake DisplayVersion = false
is_mistake OutOfMemory = false
is_mistake _ = true

abbrev pub HasMistake : Kinds → Type 0
HasMistake kinds = (k : ErrorKind) × IsAmong k kinds × (is_mistake k ≡ true)

-- the subcommand that words name, with its options, as clap reads them
abbrev pub found_in : List Text → Option (Text × List Row)
found_in words = subcommand_of natsd_app words

-- a task on the policy of a file, or on that of standard input where no file is named
abbrev pub on_policy : Task → Option Word → Invocation
on_policy task None = invocation.Task task
on_policy task (Some file) = invocation.OnFile task file

-- the file of a name, if there is one
abbrev pub IsFile : Option Text → Option Word → Type 0
IsFile name file = option_map string_bytes file ≡ name

-- what is asked of a policy: its sets, or that no warning is told, where the option is given, or else how much it has
abbrev pub checking : List Row → Task
checking rows = if is_set (codes "sets") rows then Sets else if is_set (codes "strict") rows then Strict else Check

-- a policy is to be checked; or its parts are to be written, where a folder for them is named
abbrev pub IsCheckIf : List Row → Option Text → Invocation → Type 0
IsCheckIf rows None a = (file : Option Word) × (a ≡ on_policy (checking rows) file) × IsFile (checked_file rows) file
IsCheckIf rows (Some folder) a = (options : SplitOptions) × (a ≡ invocation.Split options) × (string_bytes options.folder ≡ folder) × IsFile (checked_file rows) options.policy

abbrev pub IsCheck : List Row → Invocation → Type 0
IsCheck rows a = IsCheckIf rows (first_of (codes "split") rows) a

-- a question is to be answered, or its kind isn't known
abbrev pub IsAskedIf : List Row → Option QuestionKind → Invocation → Type 0
IsAskedIf rows None a = a ≡ invocation.Task BadKind
IsAskedIf rows (Some kind) a =
    (question : Question) × (file : Option Word) × (a ≡ on_policy (Explain question) file) × IsQuestion rows kind question × IsFile (policy_file rows) file

abbrev pub IsAskedBy : List Row → Invocation → Type 0
IsAskedBy rows a = IsAskedIf rows (kind_named (word_at (codes "kind") rows)) a

-- clients are to be served, by the options, or a word that chooses something isn't known
abbrev pub IsBadChoice : List Row → Task → Type 0
IsBadChoice rows task =
    ((task ≡ BadLog) × (log_named (word_at (codes "log") rows) ≡ None))
    ⊎ ((task ≡ BadKeepalive) × IsKeepalive (word_at (codes "keepalive") rows) None)

abbrev pub IsServing : List Row → Invocation → Type 0
IsServing rows (invocation.Serve options) = IsOptions rows options
IsServing rows (invocation.Task task) = IsBadChoice rows task
IsServing rows (invocation.OnFile task file) = ⊥
IsServing rows (invocation.Split options) = ⊥
IsServing rows (invocation.Compare options) = ⊥

-- the policies that are to be compared
abbrev pub IsComparing : List Row → Invocation → Type 0
IsComparing rows (invocation.Compare options) = AreCompared rows options
IsComparing rows (invocation.Serve options) = ⊥
IsComparing rows (invocation.Task task) = ⊥
IsComparing rows (invocation.OnFile task file) = ⊥
IsComparing rows (invocation.Split options) = ⊥

-- what a subcommand asks for
abbrev pub IsInvokedIf : Bool → Bool → Bool → Bool → List Row → Invocation → Type 0
IsInvokedIf true explains checks compares rows a = IsServing rows a
IsInvokedIf false true checks compares rows a = IsAskedBy rows a
IsInvokedIf false false true compares rows a = IsCheck rows a
IsInvokedIf false false false true rows a = IsComparing rows a
IsInvokedIf false false false false rows a = a ≡ invocation.Task Play

abbrev pub IsInvokedAs : Text → List Row → Invocation → Type 0
IsInvokedAs name rows a = IsInvokedIf (bytes_eq name (codes "serve")) (bytes_eq name (codes "explain")) (bytes_eq name (codes "check")) (bytes_eq name (codes "compare")) rows a

abbrev pub IsInvokedBy : Option (Text × List Row) → Invocation → Type 0
IsInvokedBy None a = a ≡ invocation.Task Play
IsInvokedBy (Some found) a = IsInvokedAs found.0 found.1 a

-- what is made of a line that names no task: what was asked for, or that it is wrong
abbrev pub IsRefusal : Kinds → Result Invocation WordsFault → Type 0
IsRefusal kinds (Ok (invocation.Task (Help text))) = IsAmong DisplayHelp kinds
IsRefusal kinds (Ok (invocation.Task (Version text))) = IsAmong DisplayVersion kinds
IsRefusal kinds (Ok _) = ⊥
IsRefusal kinds (Err (WrongLine text)) = HasMistake kinds
IsRefusal kinds (Err NoMemory) = ⊤

-- one of the subcommands was found
abbrev pub names_task : Text → Bool
names_task name = bytes_eq name (codes "play") || bytes_eq name (codes "check") || bytes_eq name (codes "explain") || bytes_eq name (codes "compare") || bytes_eq name (codes "serve")

-- what the subcommand that was found asks for
abbrev pub IsFound : Option (Text × List Row) → Invocation → Type 0
IsFound None a = ⊥
IsFound (Some found) a = IsTrue (names_task found.0) × IsInvokedAs found.0 found.1 a

-- what is made of a line: what is named, where nothing is wrong, or a refusal
abbrev pub IsReading : Kinds → Option (Text × List Row) → Result Invocation WordsFault → Type 0
IsReading kinds found (Ok a) = ((kinds ≡ []) × IsFound found a) ⊎ IsRefusal kinds (Ok a)
IsReading kinds found (Err fault) = IsRefusal kinds (Err fault)

-- the task, or want of memory
abbrev pub IsTaskOrMemory : Task → Result Invocation WordsFault → Type 0
IsTaskOrMemory task (Ok a) = a ≡ invocation.Task task
IsTaskOrMemory task (Err (WrongLine text)) = ⊥
IsTaskOrMemory task (Err NoMemory) = ⊤

-- to serve, with options of which this holds, or want of memory
abbrev pub IsServeOrMemory : (ServeOptions → Type 0) → Result Invocation WordsFault → Type 0
IsServeOrMemory P (Ok (invocation.Serve options)) = P options
IsServeOrMemory P (Ok (invocation.Task task)) = ⊥
IsServeOrMemory P (Ok (invocation.OnFile task file)) = ⊥
IsServeOrMemory P (Ok (invocation.Split options)) = ⊥
IsServeOrMemory P (Ok (invocation.Compare options)) = ⊥
IsServeOrMemory P (Err (WrongLine text)) = ⊥
IsServeOrMemory P (Err NoMemory) = ⊤

-- the line is wrong, or want of memory
abbrev pub IsWrongOrMemory : Result Invocation WordsFault → Type 0
IsWrongOrMemory (Ok a) = ⊥
IsWrongOrMemory (Err (WrongLine text)) = ⊤
IsWrongOrMemory (Err NoMemory) = ⊤

-- a word that begins with no hyphen and names no task
abbrev pub IsUnknown : List ℕ → Type 0
IsUnknown word = (strip_byte 45 word ≡ None) × (bytes_eq (codes "play") word ≡ false) × (bytes_eq (codes "check") word ≡ false) × (bytes_eq (codes "explain") word ≡ false) × (bytes_eq (codes "compare") word ≡ false) × (bytes_eq (codes "serve") word ≡ false)

-- With which status the program ends (docs/SCRIPT.md, "Statuses").
use Rattle.std.specs.Prelude.{◌≡◌, ◌⊎◌, ℕ, Result, Ok, Err, IsOk}
use Rattle.command_line.specs.declared.options.ServeOptions.{ServeOptions}
use Rattle.tasks.specs.declared.status.Ran.{Ran}
use Rattle.tasks.specs.declared.status.Ran.TheVariants as ran

-- a status stays, or is 1: what is told after a task never takes a failure back
abbrev pub IsKept : ℕ → ℕ → Type 0
IsKept status end = (end ≡ status) ⊎ (end ≡ 1)

-- What becomes of what `run` has come to: a status that it ended with is the program's, or 1 where a warning is told and none may
-- be. A task on a file, the writing of a policy's parts, and a comparison end with a status of their own. Clients are served by the options
-- that were read.
abbrev pub IsEndOf : Ran → Result ℕ ServeOptions → Type 0
IsEndOf (ran.Ended status) end = (told : ℕ) × (end ≡ Ok told) × IsKept status told
IsEndOf (ran.OnFile task file) end = IsOk end
IsEndOf (ran.Split options) end = IsOk end
IsEndOf (ran.Compare options) end = IsOk end
IsEndOf (ran.Serve options) end = end ≡ Err options

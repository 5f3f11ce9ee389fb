-- The status of `natsd check --strict` (docs/POLICY.md, "Warnings").
use Rattle.std.specs.Prelude.{ℕ, Bool, true, false}
use Rattle.command_line.specs.declared.words.Task.{Task}
use Rattle.command_line.specs.declared.words.Task.TheVariants.{Play, Check, Strict, Sets, Explain, BadKind, BadLog, BadKeepalive, Help, Version}

-- the status of a task, but 1 where a warning was told and none may be
abbrev pub strict_status : Task → ℕ → Bool → ℕ
strict_status Strict status true = 1
strict_status Strict status false = status
strict_status Play status warned = status
strict_status Check status warned = status
strict_status Sets status warned = status
strict_status (Explain question) status warned = status
strict_status BadKind status warned = status
strict_status BadLog status warned = status
strict_status BadKeepalive status warned = status
strict_status (Help text) status warned = status
strict_status (Version text) status warned = status

-- Why a task is not done to its end (docs/SCRIPT.md, "Statuses").
use Rattle.std.specs.Prelude.{◌≡◌, ◌≤◌, ◌<◌, ◌⊎◌, ℕ, List, length, codes, Bool, true, false, Option, IfSome, Result, Err}
use Rattle.devices.specs.Device.{counted, IsFewerReads}
use Rattle.devices.specs.declared.fault.ReadFault.{ReadFault}
use Rattle.devices.specs.declared.fault.ReadFault.TheVariants as reading
use Rattle.script.specs.declared.fault.LinesFault.{LinesFault}
use Rattle.script.specs.declared.fault.LinesFault.TheVariants as lines
use Rattle.tasks.specs.declared.fault.TaskFault.{TaskFault}
use Rattle.tasks.specs.declared.fault.TaskFault.TheVariants.{ReadFailed, WriteFailed, NoMemory, ScriptTooLong}

-- the source failed
abbrev pub is_read_failed : {T : Type 0} → Result T TaskFault → Bool
is_read_failed (Err ReadFailed) = true
is_read_failed _ = false

-- the sink failed
abbrev pub is_write_failed : {T : Type 0} → Result T TaskFault → Bool
is_write_failed (Err WriteFailed) = true
is_write_failed _ = false

-- a fault of reading, and one of a script's lines
abbrev pub of_reading : ReadFault → TaskFault
of_reading reading.ReadFailed = ReadFailed
of_reading reading.NoMemory = NoMemory

abbrev pub of_lines : LinesFault → TaskFault
of_lines lines.WriteFailed = WriteFailed
of_lines lines.NoMemory = NoMemory

-- a script whose end is found: it has 16,777,216 bytes at most, and fewer than 1,000,000 reads gave them, so that
-- the one that found the end is the last that is allowed
abbrev pub IsShort : Option (List ℕ) → ℕ → ℕ → Type 0
IsShort left before after = IfSome left (λ script. length script ≤ 16777216) × IsFewerReads 1000000 before after

-- it has more bytes, or so many reads gave bytes
abbrev pub IsTooLong : Option (List ℕ) → ℕ → ℕ → Type 0
IsTooLong left before after = IfSome left (λ script. 16777216 < length script) ⊎ (after ≡ counted before 1000000)

-- what is said of a fault
abbrev pub fault_text : TaskFault → List ℕ
fault_text ReadFailed = codes "read failed"
fault_text WriteFailed = codes "write failed"
fault_text NoMemory = codes "no memory"
fault_text ScriptTooLong = codes "script too long"

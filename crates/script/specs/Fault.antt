-- Why the lines of a script are not played to their end (docs/SCRIPT.md, "Statuses").
use Rattle.std.specs.Prelude.{List, ℕ, codes, Bool, true, false, Result, Err}
use Rattle.script.specs.declared.fault.LinesFault.{LinesFault}
use Rattle.script.specs.declared.fault.LinesFault.TheVariants.{WriteFailed, NoMemory}

-- the sink failed
abbrev pub is_write_failed : {T : Type 0} → Result T LinesFault → Bool
is_write_failed (Err WriteFailed) = true
is_write_failed _ = false

-- what is said of a fault
abbrev pub fault_text : LinesFault → List ℕ
fault_text WriteFailed = codes "write failed"
fault_text NoMemory = codes "no memory"

-- How the reading of a source to its end goes.
use Rattle.std.specs.Prelude.{◌≡◌, ◌≤◌, ◌<◌, ◌+◌, ◌⊎◌, ℕ, List, length, min, codes, Bool, true, false, Option, Some, None, IfSome, Result, Err}
use Rattle.devices.specs.Device.{counted, IsFewerReads}
use Rattle.devices.specs.declared.fault.ReadFault.{ReadFault}
use Rattle.devices.specs.declared.fault.ReadFault.TheVariants.{ReadFailed, NoMemory}

-- the source failed
abbrev pub is_read_failed : {T : Type 0} → Result T ReadFault → Bool
is_read_failed (Err ReadFailed) = true
is_read_failed _ = false

-- the end was found: all that was left was read, within so many bytes, and the end by a read within so many
-- or it was not: more bytes were left, or so many reads have given bytes
abbrev pub IsReading : ℕ → ℕ → Option (List ℕ) → ℕ → ℕ → Option (List ℕ) → Type 0
IsReading bytes reads left before after (Some text) = IfSome left (λ xs. text ≡ xs) × (length text ≤ bytes) × IsFewerReads reads before after
IsReading bytes reads left before after None = IfSome left (λ xs. bytes < length xs) ⊎ (after ≡ counted before reads)

-- each read that is counted gave a byte or more
abbrev pub IsLongAsRead : ℕ → ℕ → Option (List ℕ) → Option (List ℕ) → Type 0
IsLongAsRead bytes reads left (Some text) = Unit {0}
IsLongAsRead bytes reads left None = IfSome left (λ xs. min (bytes + 1) reads ≤ length xs)

-- what is said of a fault
abbrev pub fault_text : ReadFault → List ℕ
fault_text ReadFailed = codes "read failed"
fault_text NoMemory = codes "no memory"

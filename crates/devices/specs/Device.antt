-- What a read counts for, and what a write that fails leaves.
use Rattle.std.specs.Prelude.{◌+◌, ◌-◌, ◌^◌, ◌≡◌, ◌<◌, ℕ, List, Bool, true, false, Option, Result, Ok, Err, if◌then◌else◌, max, min, nat_lt, take}
use Rattle.std.specs.Io.KnownBytes.{Appends}
use Rattle.devices.specs.declared.device.DeviceFailed.{DeviceFailed}

-- so many more, as far as 64 bits count; a number that is past that stays
abbrev pub counted : ℕ → ℕ → ℕ
counted before more = min (before + more) (max before (2 ^ 64 - 1))

-- a read counts where it gave bytes
abbrev pub reads_in : Result ℕ DeviceFailed → ℕ
reads_in (Ok count) = if nat_lt 0 count then 1 else 0
reads_in (Err e) = 0

-- fewer than so many reads have given bytes since
abbrev pub IsFewerReads : ℕ → ℕ → ℕ → Type 0
IsFewerReads reads before after = (n : ℕ) × (n < reads) × (after ≡ counted before n)

-- known bytes grow by a front of bs
abbrev pub AppendsFront : Option (List ℕ) → Option (List ℕ) → List ℕ → Type 0
AppendsFront old new bs = (n : ℕ) × Appends old new (take n bs)

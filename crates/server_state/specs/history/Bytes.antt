-- How many bytes the history's entries are counted for.
use Rattle.std.specs.Prelude.{ℕ, ◌+◌, ◌*◌, ◌^◌, ◌<◌, ◌≤◌, ◌≡◌, ◌&&◌, Bool, nat_le, length, List, [], ◌∷◌, Option, None, Some}
use Rattle.std.specs.Io.Iter.{u64_saturate}
use Rattle.events.specs.declared.answer.Entry.{Entry}
use Rattle.events.specs.declared.answer.Outcome.{Outcome}
use Rattle.events.specs.declared.answer.Outcome.TheVariants.{Published, Taken, Reloaded}
use Rattle.server_state.specs.declared.history.kept.Added.{Added}

-- for each item of a message, for each delivery that a Take gave, and for each session that a reload ended and each
-- subscription that it removed
abbrev pub listed : Outcome → ℕ
listed (Published _ met) = 24 * length met
listed (Taken deliveries _) = 48 * length deliveries
listed (Reloaded gone removed) = 8 * length gone + 128 * length removed
listed _ = 0

-- How many bytes an entry keeps of its own, beside the texts that were read: its command, and its lists.
abbrev pub own : Entry → ℕ
own entry = 250 + listed entry.outcome

-- A port has counted bytes more than what it had not told of before. Below 64 KiB nothing is told, else all of it, and
-- nothing is left.
abbrev pub IsCounted : ℕ → ℕ → Option Added → ℕ → Type 0
IsCounted before bytes None after = (after ≡ before + bytes) × (after < 65536)
IsCounted before bytes (Some added) after = (65536 ≤ before + bytes) × (added.bytes ≡ u64_saturate (before + bytes)) × (after ≡ 0)

-- Whether the teller of bytes is to hand the history out: with what was counted before they are half of what may be kept, and
-- so is what it has taken away itself.
abbrev pub is_passed : ℕ → ℕ → ℕ → ℕ → Bool
is_passed half before bytes taken = nat_le half (u64_saturate (before + bytes)) && nat_le half taken

-- how many bytes were told of
abbrev pub told : Option Added → ℕ
told None = 0
told (Some added) = added.bytes

-- Entries that a port has counted one after the other: what it had not told of before, what it has told of them, and what it
-- has not told of since.
abbrev pub AreCounted : ℕ → List Entry → ℕ → ℕ → Type 0
AreCounted before [] all after = (all ≡ 0) × (after ≡ before)
AreCounted before (entry ∷ entries) all after =
    (t : Option Added) × (between : ℕ) × (rest : ℕ) × IsCounted before (own entry) t between
    × AreCounted between entries rest after × (all ≡ told t + rest)

-- an entry whose size is told as it is
abbrev pub IsTold : Entry → Type 0
IsTold entry = own entry + 65536 < 2 ^ 64

-- When a port rotates the history.
use Rattle.std.specs.Prelude.{ℕ, ◌+◌, ◌≡◌, ◌&&◌, Bool, true, false, Option, None, Some, nat_le}
use Rattle.std.specs.Io.Iter.{u64_saturate}
use Rattle.shared_hub.specs.Segments.{HistoryPart, IsHistoryPart}
use Rattle.server_state.specs.declared.history.kept.Look.{Look}
use Rattle.server_state.specs.declared.history.kept.Added.{Added}
use Rattle.server_state.specs.history.Bytes.{is_passed}
use Rattle.server_state.specs.history.Rotating.{Rotating, failed, is_due, is_same, taken_over}

-- It was rotated: what was handed out, a part of a history, is all that is still to be dropped. Or it could not be.
abbrev pub IsHandedOut : Bool → Rotating → Rotating → Type 0
IsHandedOut true before after = (p : HistoryPart) × (rotations : ℕ) × IsHistoryPart p × (after ≡ taken_over p.entries rotations before)
IsHandedOut false before after = after ≡ failed before

-- how often it was tried, once more if it was to be
abbrev pub tried : Bool → ℕ → ℕ
tried true n = u64_saturate (n + 1)
tried false n = n

-- whether the port that added is to rotate it
abbrev pub passed : Option Added → Bool
passed None = false
passed (Some t) = is_passed t.half t.before t.bytes t.taken

-- whether a port looks at a number whether it is to be rotated
abbrev pub falls_due : Rotating → ℕ → Bool
falls_due r number = nat_le r.due number && is_due r.half number

-- whether the port that looked is to rotate it: nobody has since the look before
abbrev pub was_same : Option Look → Bool
was_same None = false
was_same (Some look) = is_same look.rotations look.before

-- what a try leaves of what else a port counts
abbrev pub IsTried : Bool → Rotating → Rotating → Type 0
IsTried is_tried before after =
    (after.tries ≡ tried is_tried before.tries) × (after.uncounted ≡ before.uncounted) × (after.due ≡ before.due) × (after.half ≡ before.half)

-- how often a seat rotates it: once, if it is to
abbrev pub once : Bool → ℕ
once true = 1
once false = 0

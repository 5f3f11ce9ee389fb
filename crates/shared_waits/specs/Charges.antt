-- What a receiver is charged over time.
use Rattle.std.specs.Prelude.{◌≡◌, ◌≤◌, ℕ, ◌+◌, ◌-◌, ◌*◌, ◌∷◌, [], List, false}
use Rattle.shared_waits.specs.declared.patience.Patience.{Patience}
use Rattle.shared_waits.specs.Patience.{is_out, fresh, begun, charge_by, taken}

-- what changes the patience with a receiver
pub data Change : Type 0 where
  -- it is found behind: half of what waits, and the moment
  Found : ℕ → ℕ → Change
  -- a Take: how many it has left, for how many milliseconds its socket took nothing before it, and the moment
  Took : ℕ → ℕ → ℕ → Change

abbrev pub moment_of : Change → ℕ
moment_of (Found half now) = now
moment_of (Took waiting refused now) = now

-- the patience behind a change
abbrev pub changed : Change → Patience → Patience
changed (Found half now) p = begun now half p
changed (Took waiting refused now) p = taken waiting refused now p

-- and behind several
abbrev pub all_changed : List Change → Patience → Patience
all_changed [] p = p
all_changed (c ∷ cs) p = all_changed cs (changed c p)

-- the milliseconds that a change charges
abbrev pub charge_of : Change → Patience → ℕ
charge_of (Found half now) p = 0
charge_of (Took waiting refused now) p = charge_by p.since refused now p

-- and several in all
abbrev pub all_charged : List Change → Patience → ℕ
all_charged [] p = 0
all_charged (c ∷ cs) p = charge_of c p + all_charged cs (changed c p)

-- behind no change is the patience used up
abbrev pub IsNeverOut : List Change → Patience → Type 0
IsNeverOut [] p = Unit {0}
IsNeverOut (c ∷ cs) p = (is_out (moment_of c) (changed c p) ≡ false) × IsNeverOut cs (changed c p)

-- A receiver with whom there always is patience is charged ten seconds at most in all, and a tenth of the time since it was
-- first found behind.
abbrev pub AreChargesBounded : Type 0
AreChargesBounded =
    (cs : List Change) (now half : ℕ) → IsNeverOut cs (fresh now half)
    → 10 * all_charged cs (fresh now half) ≤ 100000 + ((all_changed cs (fresh now half)).at - now)

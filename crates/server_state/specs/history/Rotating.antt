-- When the history is rotated, and which of its entries are still to be dropped.
use Rattle.std.specs.Prelude.{ℕ, ◌+◌, ◌-◌, ◌%◌, ◌/◌, ◌&&◌, Bool, cond, not, nat_eq, nat_lt, length, take, List, []}
use Rattle.std.specs.Io.Iter.{u64_saturate}
use Rattle.events.specs.declared.answer.Entry.{Entry}

-- half of what the history holds at most; below which number nothing is due; what was handed out and is still to be dropped;
-- how many blocks of those that were dropped no new entry has yet; how many bytes were counted and not told of; how often the
-- history had been rotated by all once this port did so last; how often this port tried to
pub record Rotating : Type 0 where
  pub half : ℕ
  pub due : ℕ
  pub spent : List Entry
  pub at_hand : ℕ
  pub uncounted : ℕ
  pub rotations : ℕ
  pub tries : ℕ

abbrev pub fresh : ℕ → Rotating
fresh history = record { half = history / 2; due = 0; spent = []; at_hand = 0; uncounted = 0; rotations = 0; tries = 0 }

-- all but the last so many
abbrev pub but_last : ℕ → List Entry → List Entry
but_last most entries = take (length entries - most) entries

-- an event comes: the last 32 are dropped, once 32 events have come since the 32 before
abbrev pub dropped : Rotating → Rotating
dropped r =
    let has = nat_lt 0 r.at_hand in
    record r { spent = cond has r.spent (but_last 32 r.spent); at_hand = cond has (r.at_hand - 1) 31 }

-- a port takes over what was handed out, and tried once more
abbrev pub taken_over : List Entry → ℕ → Rotating → Rotating
taken_over entries rotations r = record r { spent = entries; rotations = rotations; tries = u64_saturate (r.tries + 1) }

-- it tried, and could not
abbrev pub failed : Rotating → Rotating
failed r = record r { tries = u64_saturate (r.tries + 1) }

-- whether the history is due at a number: a multiple of half of what it holds at most
abbrev pub is_due : ℕ → ℕ → Bool
is_due half number = not (nat_eq half 0) && nat_eq (number % half) 0

-- the multiple above it
abbrev pub next_due : ℕ → ℕ → ℕ
next_due half number = cond (nat_eq half 0) number (u64_saturate ((number - number % half) + half))

-- it was looked at a number: nothing is due before the next multiple
abbrev pub looked : ℕ → Rotating → Rotating
looked number r = record r { due = next_due r.half number }

-- whether the history was not rotated between two looks, by how often it was
abbrev pub is_same : ℕ → ℕ → Bool
is_same rotations before = nat_eq rotations before

-- When a worker tells what it counts, and whose account it counts in.
use Rattle.std.specs.Prelude.{◌-◌, ◌+◌, ◌⊎◌, ◌^◌, min, ◌==◌, if◌then◌else◌, ◌≡◌, ◌≢◌, ℕ, List, Option, Some, None, option_map, slice_get}
use Rattle.server_stats.specs.declared.counts.AccountCounts.{AccountCounts}
use Rattle.server_stats.specs.declared.tally.Tally.{Tally}
use Rattle.server_stats.specs.Counts.{plus}
use Rattle.std.specs.Io.Iter.{u64_saturate}

-- the greatest number is of one that doesn't count, and stays
abbrev pub told_at : ℕ → ℕ → ℕ
told_at due old = if old == 2 ^ 64 - 1 then old else min due (2 ^ 64 - 2)

-- it was told once more, or, where it was heard before in this round, nothing has changed
abbrev pub IsTold : Tally → Tally → Type 0
IsTold before after = (after ≡ record before { rounds = u64_saturate (before.rounds + 1) }) ⊎ (after ≡ before)

-- the place of a connection's account, if it is known
abbrev pub known : Option (Option ℕ) → Option ℕ
known None = None
known (Some place) = place

abbrev pub place_of : ℕ → List (Option ℕ) → Option ℕ
place_of key places = known (slice_get places key)

-- the account in this place, if there is one, has more, and the others have what they had
pub record IsAdded (place : Option ℕ) (more : AccountCounts) (before after : List AccountCounts) : Type 0 where
  pub there : (p : ℕ) → place ≡ Some p → slice_get after p ≡ option_map (λ (c : AccountCounts). plus c more) (slice_get before p)
  pub elsewhere : (p : ℕ) → place ≢ Some p → slice_get after p ≡ slice_get before p

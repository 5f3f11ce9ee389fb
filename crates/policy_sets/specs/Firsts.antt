-- The first account of each account's set, by their places.
use Rattle.std.specs.Prelude.{◌≡◌, ◌<◌, ◌==◌, ℕ, List, length, if◌then◌else◌}
use Rattle.std.specs.List.{slice_index, slice_index_or}
use Rattle.std.specs.Prelude.{nat_lt, []}
use Rattle.policy_doc.specs.Accounts.{Name}

abbrev pub name_at : List Name → ℕ → Name
name_at names place = slice_index_or names place []

-- the place of a first account stands for it
pub record IsFirstAt (names : List Name) (first : Name → Name) (firsts : List ℕ) (place : ℕ) : Type 0 where
  pub within : slice_index firsts place < length names
  pub named : name_at names (slice_index firsts place) ≡ first (name_at names place)

pub record AreFirsts (names : List Name) (first : Name → Name) (firsts : List ℕ) : Type 0 where
  pub as_many : length firsts ≡ length names
  pub each : (place : ℕ) → place < length names → IsFirstAt names first firsts place

abbrev pub exchanged_place : ℕ → ℕ → ℕ → ℕ
exchanged_place old new place = if place == old then new else place

-- of two first places the greater gives way to the lesser
abbrev pub lesser_place : ℕ → ℕ → ℕ → ℕ
lesser_place one other place = if nat_lt one other then exchanged_place other one place else exchanged_place one other place

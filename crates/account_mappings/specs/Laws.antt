-- A law of the drawing.
use Rattle.std.specs.Prelude.{◌≡◌, ◌<◌, ◌≤◌, ◌==◌, ℕ, Bool, false, List, length, get_or, Option, Some, None}
use Rattle.std.specs.List.{count_by, range_with_len, sum_by}
use Rattle.account_mappings.specs.Drawing.{chosen}

abbrev pub is_at : ℕ → Option ℕ → Bool
is_at place None = false
is_at place (Some i) = i == place

-- how many of the hundred draws choose the destination at a place
abbrev pub draws_of : ℕ → List ℕ → ℕ
draws_of place weights = count_by (λ draw. is_at place (chosen draw weights)) (range_with_len 0 100)

-- each destination has as many of the hundred draws as its weight
abbrev pub FairDraws : Type 0
FairDraws = (weights : List ℕ) → sum_by (λ w. w) weights ≤ 100 → (place : ℕ) → place < length weights → draws_of place weights ≡ get_or weights place 0

-- Slots by rising number, of which some are empty. A slot is anything that has a number, and holds a value as long as one stands.
use Rattle.std.specs.Prelude.{◌≡◌, ◌≢◌, ◌<◌, ℕ, Bool, false, List, [], ◌∷◌, ◌++◌, Option, Some, None, length, slice_index_or}
use Rattle.std.specs.List.{HoldsAt}

-- what a slot of that number has
abbrev pub entry_of : {X : Type 0} → ℕ → Option X → List (ℕ × X)
entry_of n None = []
entry_of n (Some x) = (n, x) ∷ []

-- whether a value stands there that passes a test
abbrev pub passes : {X : Type 0} → (X → Bool) → Option X → Bool
passes p None = false
passes p (Some x) = p x

-- the values that stand, in order
abbrev pub entries_in : {S X : Type 0} → (S → ℕ) → (S → Option X) → List S → List (ℕ × X)
entries_in number held [] = []
entries_in number held (s ∷ slots) = entry_of (number s) (held s) ++ entries_in number held slots

module _ {S : Type 0} (number : S → ℕ) where
  -- the number of every slot is above a number
  unfoldable pub AreAbove : ℕ → List S → Type 0
  AreAbove n [] = Unit {0}
  AreAbove n (s ∷ slots) = (n < number s) × AreAbove n slots

  -- the number of every slot is below a number
  unfoldable pub AreBelow : ℕ → List S → Type 0
  AreBelow n [] = Unit {0}
  AreBelow n (s ∷ slots) = (number s < n) × AreBelow n slots

  -- the numbers rise, those of empty slots too
  unfoldable pub AreRising : List S → Type 0
  AreRising [] = Unit {0}
  AreRising (s ∷ slots) = AreAbove (number s) slots × AreRising slots

  -- the slot of that number
  abbrev pub IsPlaceOf : ℕ → List S → ℕ → Type 0
  IsPlaceOf n slots at = (at < length slots) × HoldsAt (λ (s : S). number s ≡ n) slots at

  -- no slot has that number
  abbrev pub IsAbsent : ℕ → List S → Type 0
  IsAbsent n slots = (k : ℕ) (d : S) → k < length slots → number (slice_index_or slots k d) ≢ n

-- A list of at most so many elements, as an outbox is.
use Rattle.std.specs.Prelude.{ℕ, ◌≡◌, ◌≤◌, ◌<◌, ◌+◌, List, [], ◌∷◌, Option, None, Some, length, flat_map}

-- what waits, oldest first, and how much may wait at most
pub record Bounded (T : Type 0) : Type 0 where
  pub capacity : ℕ
  pub waiting : List T

-- what a batch has, if there is one
abbrev pub batched : {T : Type 0} → Option (List T) → List T
batched None = []
batched (Some b) = b

-- an element as a list, if there is one
abbrev pub listed : {T : Type 0} → Option T → List T
listed None = []
listed (Some x) = x ∷ []

-- no element is nothing
abbrev pub AreSome : {X T : Type 0} → (X → List T) → List X → Type 0
AreSome each [] = Unit {0}
AreSome each (x ∷ xs) = (1 ≤ length (each x)) × AreSome each xs

-- What waits is counted: those of a batch but for so many that were let go, and those of a ring. There is room for all.
pub record IsCounted {X T : Type 0} (each : X → List T) (batch : List T) (ring : List X) (gone waiting capacity : ℕ) : Type 0 where
  pub within : gone ≤ length batch
  pub counted : gone + waiting ≡ length batch + length (flat_map each ring)
  pub room : waiting ≤ capacity
  pub some : AreSome each ring

-- so many are fewer than the first element is; where there is none they are none
abbrev pub IsPart : {X T : Type 0} → (X → List T) → ℕ → List X → Type 0
IsPart each n [] = n ≡ 0
IsPart each n (x ∷ xs) = n < length (each x)

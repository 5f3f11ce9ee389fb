-- Queues of connections, by their keys.
use Rattle.std.specs.Prelude.{◌≡◌, ℕ, ◌++◌, ◌∷◌, List, [], Bool, true, false, Option, None, Some}

-- A key is put behind the others, unless it is in the queue already. Without memory nothing changes.
abbrev pub IsPut : ℕ → Bool → List ℕ → Bool → List ℕ → Type 0
IsPut key true before is_in' after = (is_in' ≡ true) × (after ≡ before)
IsPut key false before true after = after ≡ before ++ key ∷ []
IsPut key false before false after = after ≡ before

-- a key is put behind the others, whether or not it is in the queue; or it couldn't
abbrev pub added : Bool → ℕ → List ℕ → List ℕ
added true key keys = keys ++ key ∷ []
added false key keys = keys

-- the first is taken out, if there is one
abbrev pub IsFirst : List ℕ → Option ℕ → List ℕ → Type 0
IsFirst before None after = (before ≡ []) × (after ≡ [])
IsFirst before (Some key) after = before ≡ key ∷ after

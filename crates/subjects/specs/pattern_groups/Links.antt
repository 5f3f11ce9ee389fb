-- Which places of a list of hashes a search asks.
use Rattle.std.specs.Prelude.{◌≡◌, ◌<◌, ◌≤◌, ◌+◌, ◌-◌, ◌⊎◌, ℕ, Bool, true, false, List, length, Option, Some, None, All, Contains}
use Rattle.std.specs.List.{slice_index_or}
use Rattle.std.specs.Int.Bits.{bit_and}
use Rattle.subjects.specs.pattern_groups.Hashes.{IsOfFront}

-- the hash at a place
abbrev pub at : List ℕ → ℕ → ℕ
at hashes i = slice_index_or hashes i 0

-- the row of a hash
unfoldable pub row_of : ℕ → ℕ → ℕ
row_of hash rows = bit_and hash (rows - 1)

-- the first place from here on whose hash is of the row; or none is, and it lies behind the list
pub record IsNext (hashes : List ℕ) (rows : ℕ) (from : ℕ) (row : ℕ) (place : ℕ) : Type 0 where
  pub behind : from ≤ place
  pub within : place < length hashes → row_of (at hashes place) rows ≡ row
  pub none_before : (j : ℕ) → from ≤ j → j < place → j < length hashes → row_of (at hashes j) rows ≡ row → ⊥

-- of the places from here on: the first of each row, and behind each place the next one of its row
pub record AreLinksFrom (hashes first next : List ℕ) (from : ℕ) : Type 0 where
  pub some_row : 0 < length first
  pub one_each : length next ≡ length hashes
  pub firsts : (row : ℕ) → row < length first → IsNext hashes (length first) from row (at first row)
  pub nexts : (i : ℕ) → from ≤ i → i < length hashes → IsNext hashes (length first) (i + 1) (row_of (at hashes i) (length first)) (at next i)

abbrev pub AreLinks : List ℕ → List ℕ → List ℕ → Type 0
AreLinks hashes first next = AreLinksFrom hashes first next 0

-- of the places before the best so far that have the hash, this is the least that passes; or none does, and it is the best
pub record IsLeastWith (passes : ℕ → Bool) (hashes : List ℕ) (hash best place : ℕ) : Type 0 where
  pub within : place ≤ best
  pub new : place < best → passes place ≡ true
  pub none_before : (j : ℕ) → j < place → at hashes j ≡ hash → passes j ≡ false

-- of the places before this one, none that has the hash passes; and it is of the hash's row, if it is a place
pub record IsWalked (passes : ℕ → Bool) (hashes : List ℕ) (rows hash place : ℕ) : Type 0 where
  pub row : place < length hashes → row_of (at hashes place) rows ≡ row_of hash rows
  pub none_before : (j : ℕ) → j < place → j < length hashes → at hashes j ≡ hash → passes j ≡ false

-- the best so far: it passes where it is a place, and what passes before it has a hash that is still to come
pub record IsBest (passes : ℕ → Bool) (hashes : List ℕ) (IsLeft : ℕ → Type 0) (best : ℕ) : Type 0 where
  pub within : best ≤ length hashes
  pub found : best < length hashes → passes best ≡ true
  pub left : (j : ℕ) → j < best → passes j ≡ true → IsLeft (at hashes j)

-- the least of so many that passes, or their count where none does
pub record IsLeastBelow (passes : ℕ → Bool) (count place : ℕ) : Type 0 where
  pub within : place ≤ count
  pub found : place < count → passes place ≡ true
  pub none_before : (j : ℕ) → j < place → passes j ≡ false

-- the least of so many that passes, or none where none does
abbrev pub IsLeast : (ℕ → Bool) → ℕ → Option ℕ → Type 0
IsLeast passes count None = (j : ℕ) → j < count → passes j ≡ false
IsLeast passes count (Some i) = (i < count) × (passes i ≡ true) × ((j : ℕ) → j < i → passes j ≡ false)

-- what passes has the hash of some of the tokens, behind those of a first hash
abbrev pub PassesBehind : (ℕ → Bool) → List ℕ → ℕ → List (List ℕ) → Type 0
PassesBehind passes hashes first tokens = (j : ℕ) → j < length hashes → passes j ≡ true → IsOfFront (at hashes j) first tokens

-- a place that passes
abbrev pub IsFound : (ℕ → Bool) → ℕ → ℕ → Type 0
IsFound passes count j = (j < count) × (passes j ≡ true)

-- what a walk for a hash, up to a place, adds to those found: they stay, what it adds passes, and what has the hash and
-- passes is there
pub record Finds (passes : ℕ → Bool) (hashes : List ℕ) (hash place : ℕ) (old new : List ℕ) : Type 0 where
  pub kept : (j : ℕ) → Contains old j → Contains new j
  pub sound : All (IsFound passes (length hashes)) old → All (IsFound passes (length hashes)) new
  pub each : (j : ℕ) → j < place → j < length hashes → at hashes j ≡ hash → passes j ≡ true → Contains new j

-- those found so far: each passes, and what passes is there, or has a hash that is still to come
pub record AreFoundBut (passes : ℕ → Bool) (hashes : List ℕ) (IsLeft : ℕ → Type 0) (found : List ℕ) : Type 0 where
  pub sound : All (IsFound passes (length hashes)) found
  pub each : (j : ℕ) → j < length hashes → passes j ≡ true → Contains found j ⊎ IsLeft (at hashes j)

-- those found: just the places that pass, in any order, some perhaps twice
pub record AreFound (passes : ℕ → Bool) (count : ℕ) (found : List ℕ) : Type 0 where
  pub sound : All (IsFound passes count) found
  pub each : (j : ℕ) → j < count → passes j ≡ true → Contains found j

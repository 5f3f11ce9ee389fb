-- What the bytes of less than a frame wait for.
use Rattle.std.specs.Prelude.{◌≡◌, ◌⊎◌, ℕ, ◌+◌, ◌<◌, ◌≤◌, List, ◌++◌, length, slice_index}
use Rattle.std.specs.List.{position_or_len}
use Rattle.wire_read.specs.declared.awaited.Awaited.{Awaited}
use Rattle.wire_read.specs.declared.awaited.Awaited.TheVariants.{LineEnd, Block}
use Rattle.wire_read.specs.declared.front.Found.{Found}
use Rattle.wire_read.specs.declared.front.Found.TheVariants as found
use Rattle.wire_read.specs.declared.advance.Advance.{Advance}
use Rattle.wire_read.specs.declared.advance.Advance.TheVariants.{Quiet, Takes}
use Rattle.wire_read.specs.lines.Line.{is_lf}
use Rattle.wire_read.specs.Front.{Front, Whole, More, Wrong, front}

-- bytes up to the end of a block, or to the CR behind it
abbrev pub IsBegun : ℕ → List ℕ → Type 0
IsBegun end bytes = (length bytes ≤ end) ⊎ ((length bytes ≡ end + 1) × (slice_index bytes end ≡ 13))

-- No LF has come yet. Or a block has begun: however it goes on, nothing is whole or wrong up to its end.
abbrev pub Waits : Awaited → List ℕ → Type 0
Waits LineEnd bytes = position_or_len is_lf bytes ≡ length bytes
Waits (Block end) bytes = (length bytes ≤ end + 1) × ((more : List ℕ) → IsBegun end (bytes ++ more) → front (bytes ++ more) ≡ More)

-- the bytes are less than a frame, and wait for this
unfoldable pub IsAwaiting : Awaited → List ℕ → Type 0
IsAwaiting awaited bytes = (front bytes ≡ More) × Waits awaited bytes

-- what was found in front of the bytes
abbrev pub IsFound : Found → List ℕ → Type 0
IsFound (found.Whole frame taken) bytes = front bytes ≡ Whole frame taken
IsFound (found.More awaited) bytes = IsAwaiting awaited bytes
IsFound (found.Wrong fault) bytes = front bytes ≡ Wrong fault

-- what was found, without what it waits for
abbrev pub front_of : Found → Front
front_of (found.Whole frame taken) = Whole frame taken
front_of (found.More awaited) = More
front_of (found.Wrong fault) = Wrong fault

-- less than a frame, if it is what was found, waits for the block that ends there
abbrev pub AwaitsBlock : Found → ℕ → Type 0
AwaitsBlock (found.More awaited) end = awaited ≡ Block end
AwaitsBlock _ end = Unit {0}

-- a piece with which the bytes before it are still less than a frame, or how much of it may end one
abbrev pub IsAdvance : Advance → Awaited → List ℕ → List ℕ → Type 0
IsAdvance Quiet awaited bytes piece = IsAwaiting awaited (bytes ++ piece)
IsAdvance (Takes n) awaited bytes piece = (n ≤ length piece) × (0 < length piece → 0 < n)

-- Messages in one block (NATS documentation, "Client Protocol", PUB).
use Rattle.std.specs.Prelude.{◌≡◌, ℕ, ◌+◌, ◌≤◌, List, [], ◌∷◌, ◌++◌, decimal, length, None, slice_range}
use Rattle.wire_message.specs.Texts.{Texts, texts}
use Rattle.wire_message.specs.declared.run.Spot.{Spot}

-- so many bytes at a place
abbrev pub bytes_at : List ℕ → ℕ → ℕ → List ℕ
bytes_at block start len = slice_range block start (start + len)

-- the texts of the message that stands there
abbrev pub spot_texts : List ℕ → Spot → Texts
spot_texts block s = texts (bytes_at block s.subject s.subject_len) None [] (slice_range block s.payload s.end)

-- a payload behind its size, as a frame ends with it
abbrev pub tail_of : List ℕ → List ℕ
tail_of payload = decimal (length payload) ++ 13 ∷ 10 ∷ (payload ++ 13 ∷ 10 ∷ [])

-- where the size begins: behind the subject and a space
abbrev pub tail_start : Spot → ℕ
tail_start s = s.start + s.subject_len + 1

-- its own text begins with the same subject, and ends with its payload behind its size
pub record IsSpot (block : List ℕ) (s : Spot) : Type 0 where
  pub within : s.end + 2 ≤ length block
  pub payload : s.payload ≤ s.end
  pub order : tail_start s ≤ s.payload
  pub same : bytes_at block s.start s.subject_len ≡ bytes_at block s.subject s.subject_len
  pub tail : slice_range block (tail_start s) (s.end + 2) ≡ tail_of (slice_range block s.payload s.end)

-- Policies on standard input are frames (docs/OPERATING.md, "Policies").
use Rattle.std.specs.Prelude.{◌≡◌, ◌≢◌, ◌≤◌, ◌<◌, ◌⊎◌, ⊤, ℕ, ◌++◌, List, [], ◌∷◌, length, Bool, true, false, Option, Some, IfSome}
use Rattle.std.specs.Char.{is_ascii_digit}
use Rattle.std.specs.Io.KnownBytes.{Consumes, IsAtEnd}
use Rattle.std.specs.Str.Parse.{digits_value}
use Rattle.base.specs.Number.{is_number}
use Rattle.server.specs.declared.policy_source.Next.{Next}
use Rattle.server.specs.declared.policy_source.Next.TheVariants as next
use Rattle.server.specs.declared.policy_source.frames.Piece.{Piece}
use Rattle.server.specs.declared.policy_source.frames.Piece.TheVariants as piece
use Rattle.server.specs.declared.policy_source.frames.Size.{Size}
use Rattle.server.specs.declared.policy_source.frames.Size.TheVariants as sizes

-- the size of a frame has one to seven decimal digits
pub record IsSize (digits : List ℕ) : Type 0 where
  pub number : is_number digits ≡ true
  pub few : length digits ≤ 7

-- a frame is its size, an LF, and as many bytes, which are a policy's text
abbrev pub frame : List ℕ → List ℕ → List ℕ
frame digits text = digits ++ 10 ∷ text

pub record IsFrame (digits text : List ℕ) : Type 0 where
  pub size : IsSize digits
  pub whole : length text ≡ digits_value 10 digits

-- no frame stands before what is left, where that is known
abbrev pub HasNoFrame : Option (List ℕ) → Type 0
HasNoFrame left = (digits text rest : List ℕ) → IsFrame digits text → left ≢ Some (frame digits text ++ rest)

-- what comes next of a source: the text of the frame that stands there, which is read; the end where nothing is left; and Bad
-- only where no frame stands there, or the source has failed
abbrev pub IsNext : Option (List ℕ) → Option (List ℕ) → Bool → Next → Type 0
IsNext left after fails (next.Text text) = (digits : List ℕ) × IsFrame digits text.items × Consumes left after (frame digits text.items)
IsNext left after fails next.Later = ⊥
IsNext left after fails next.End = IsAtEnd left
IsNext left after fails next.Bad = (fails ≡ true) ⊎ HasNoFrame left
IsNext left after fails next.NoMemory = ⊤

-- ---- a frame by its parts

-- a byte is read, or none is left
abbrev pub IsPiece : Option (List ℕ) → Option (List ℕ) → Bool → Piece → Type 0
IsPiece left after fails (piece.Digit byte) = (is_ascii_digit byte ≡ true) × Consumes left after (byte ∷ [])
IsPiece left after fails piece.LineFeed = Consumes left after (10 ∷ [])
IsPiece left after fails piece.Other = (byte : ℕ) × (is_ascii_digit byte ≡ false) × (byte ≢ 10) × Consumes left after (byte ∷ [])
IsPiece left after fails piece.End = IsAtEnd left
IsPiece left after fails piece.Failed = fails ≡ true

-- what a byte is
abbrev pub IsPieceOf : ℕ → Piece → Type 0
IsPieceOf byte (piece.Digit digit) = (digit ≡ byte) × (is_ascii_digit byte ≡ true)
IsPieceOf byte piece.LineFeed = byte ≡ 10
IsPieceOf byte piece.Other = (is_ascii_digit byte ≡ false) × (byte ≢ 10)
IsPieceOf byte piece.End = ⊥
IsPieceOf byte piece.Failed = ⊥

-- what the bytes before an LF are
abbrev pub IsSizeOf : List ℕ → Size → Type 0
IsSizeOf digits (sizes.Bytes size) = (is_number digits ≡ true) × (size ≡ digits_value 10 digits)
IsSizeOf digits sizes.End = ⊥
IsSizeOf digits sizes.Bad = is_number digits ≡ false

-- no size stands before what is left
abbrev pub HasNoSize : Option (List ℕ) → Type 0
HasNoSize left = (digits text : List ℕ) → IsSize digits → left ≢ Some (frame digits text)

-- a size and its LF are read, or nothing is left
abbrev pub IsSized : Option (List ℕ) → Option (List ℕ) → Bool → Size → Type 0
IsSized left after fails (sizes.Bytes size) = (digits : List ℕ) × IsSize digits × (size ≡ digits_value 10 digits) × Consumes left after (digits ++ 10 ∷ [])
IsSized left after fails sizes.End = IsAtEnd left
IsSized left after fails sizes.Bad = (fails ≡ true) ⊎ HasNoSize left

-- fewer bytes than a size are left
abbrev pub IsShort : ℕ → Option (List ℕ) → Type 0
IsShort size left = IfSome left (λ text. length text < size)

-- a buffer is filled, or fewer bytes are left
abbrev pub IsFilled : Option (List ℕ) → Option (List ℕ) → Bool → List ℕ → Bool → Type 0
IsFilled left after fails buf true = Consumes left after buf
IsFilled left after fails buf false = (fails ≡ true) ⊎ IsShort (length buf) left

-- as many bytes as a size says are read
abbrev pub IsTextOf : ℕ → Option (List ℕ) → Option (List ℕ) → Bool → Next → Type 0
IsTextOf size left after fails (next.Text text) = (length text.items ≡ size) × Consumes left after text.items
IsTextOf size left after fails next.Later = ⊥
IsTextOf size left after fails next.End = ⊥
IsTextOf size left after fails next.Bad = (fails ≡ true) ⊎ IsShort size left
IsTextOf size left after fails next.NoMemory = ⊤

-- The frames of a stream (NATS documentation, "Client Protocol"; docs/PROTOCOL.md, "Frames").
use Rattle.std.specs.Prelude.{◌≡◌, ℕ, zero, suc, Bool, true, false, List, [], ◌∷◌, ◌++◌, length, drop, Result, Ok, Err, if◌then◌else◌}
use Rattle.std.specs.List.{flat_map}
use Rattle.wire_read.specs.declared.frame.Frame.{Frame}
use Rattle.wire_read.specs.declared.frame.Frame.TheVariants as frame
use Rattle.wire_read.specs.declared.fault.FeedError.{FeedError}
use Rattle.wire_read.specs.declared.fault.FeedError.TheVariants.{Failed, NoMemory}
use Rattle.wire_read.specs.Front.{Front, Whole, More, Wrong, front}

-- the frames of a stream, what is left of it, and whether its last frame is a fault
pub record Framing : Type 0 where
  pub frames : List Frame
  pub rest : List ℕ
  pub failed : Bool

abbrev pub framing : List Frame → List ℕ → Bool → Framing
framing frames rest failed = record { frames = frames; rest = rest; failed = failed }

-- a framing behind these frames
abbrev pub behind : List Frame → Framing → Framing
behind frames f = framing (frames ++ f.frames) f.rest f.failed

-- a stream that begins so, with the framing of what follows a frame
abbrev pub framed_by : Front → (ℕ → Framing) → List ℕ → Framing
framed_by More after bytes = framing [] bytes false
framed_by (Wrong fault) after bytes = framing (frame.Fault fault ∷ []) [] true
framed_by (Whole f taken) after bytes = behind (f ∷ []) (after taken)

-- the framing of a stream of at most so many frames
unfoldable pub first_frames : ℕ → List ℕ → Framing
first_frames zero bytes = framing [] bytes false
first_frames (suc most) bytes = framed_by (front bytes) (λ taken. first_frames most (drop taken bytes)) bytes

-- the frames of a stream: each has a byte at least
unfoldable pub frames_of : List ℕ → Framing
frames_of bytes = first_frames (length bytes) bytes

-- what a reader keeps of the pieces so far, and whether it gave a fault
pub record Reader : Type 0 where
  pub rest : List ℕ
  pub failed : Bool

-- what a reader answers to a piece, and what it is afterwards
abbrev pub IsFed : Reader → List ℕ → Result (List Frame) FeedError → Reader → Type 0
IsFed old piece (Ok frames) new =
    (old.failed ≡ false) × (framing frames new.rest new.failed ≡ frames_of (old.rest ++ piece))
IsFed old piece (Err Failed) new = (old.failed ≡ true) × (new ≡ old)
IsFed old piece (Err NoMemory) new = (old.failed ≡ false) × (new ≡ old)

-- the framing of a stream that goes on: a fault stays its last frame
abbrev pub followed : Framing → List ℕ → Framing
followed f more = if f.failed then f else behind f.frames (frames_of (f.rest ++ more))

-- where a stream is cut changes none of its frames
abbrev pub CutAnywhere : Type 0
CutAnywhere = (a b : List ℕ) → frames_of (a ++ b) ≡ followed (frames_of a) b

-- a call of a reader: the piece and the answer
abbrev pub Call : Type 0
Call = List ℕ × Result (List Frame) FeedError

-- what a call took of its piece, and the frames that it gave
abbrev pub taken_by : Call → List ℕ
taken_by (piece, Ok frames) = piece
taken_by (piece, Err e) = []

abbrev pub given_by : Call → List Frame
given_by (piece, Ok frames) = frames
given_by (piece, Err e) = []

-- calls of one reader, one after another
abbrev pub IsRun : Reader → List Call → Reader → Type 0
IsRun old [] new = new ≡ old
IsRun old (call ∷ calls) new = (next : Reader) × IsFed old call.0 call.1 next × IsRun next calls new

-- whatever pieces a new reader was fed, it gave the frames of those it took
abbrev pub ReadsAnyPieces : Type 0
ReadsAnyPieces = (calls : List Call) (new : Reader) → IsRun (record { rest = []; failed = false }) calls new →
    framing (flat_map given_by calls) new.rest new.failed ≡ frames_of (flat_map taken_by calls)

-- The turns of frames, in order, and the frames that a piece completes (docs/GUARANTEE.md, "A connection").
use Rattle.std.specs.Prelude.{◌≡◌, ℕ, Bool, true, false, List, [], ◌∷◌, ◌++◌, Option, Some, None}
use Rattle.wire_read.specs.declared.frame.Frame.{Frame}
pub use Rattle.session_plan.specs.pending.Reading.{frames_after, reader_after}
use Rattle.session_plan.specs.declared.stage.Stage.{Stage}
use Rattle.session_conn.specs.declared.output.Stall.{Stall}
use Rattle.session_plan.specs.Replies.{is_closed}
use Rattle.session_conn.specs.Turns.{Steps, Draws, Turned, Goes, Stalls, IsFrameTurn}

-- where a connection is between two turns: the word is that of the next frame, where it has drawn one
pub record Spot (P W : Type 0) : Type 0 where
  pub port : P
  pub words : W
  pub stage : Stage
  pub word : Option ℕ

abbrev pub spot : {P W : Type 0} → P → W → Stage → Option ℕ → Spot P W
spot p w s word = record { port = p; words = w; stage = s; word = word }

-- what the turns of frames came to: what was told, the frames that are left, and what stopped them
pub record Served (P W : Type 0) : Type 0 where
  pub text : List ℕ
  pub frames : List Frame
  pub stall : Option Stall
  pub at : Spot P W

abbrev pub served : {P W : Type 0} → List ℕ → List Frame → Option Stall → Spot P W → Served P W
served text frames stall at = record { text = text; frames = frames; stall = stall; at = at }

-- no frame is left
abbrev pub rests : {P W : Type 0} → Spot P W → Served P W
rests at = served [] [] None at

-- what is told before
abbrev pub behind : {P W : Type 0} → List ℕ → Served P W → Served P W
behind text r = served (text ++ r.text) r.frames r.stall r.at

-- a turn, and then the others; where it stalls the frame is left with all behind it
abbrev pub IsFollowed : {P W : Type 0} → (Spot P W → Served P W → Type 0) → List Frame → Stage → Turned → P → W → Served P W → Type 0
IsFollowed {P} {W} more all s (Goes t) p w r = (rest : Served P W) × more (spot p w t.stage None) rest × (r ≡ behind t.text rest)
IsFollowed more all s (Stalls stall word) p w r = r ≡ served [] all (Some stall) (spot p w s word)

-- after a closing text the rest is dropped
abbrev pub UnlessClosed : {P W : Type 0} → Bool → Spot P W → Served P W → Type 0 → Type 0
UnlessClosed true at r Turns = r ≡ rests at
UnlessClosed false at r Turns = Turns

-- Frames in order: each has its turn, until one stalls or closes the connection.
unfoldable pub Serves : {P W : Type 0} → Steps P → Draws W → ℕ → ℕ → List Frame → Spot P W → Served P W → Type 0
Serves steps draws now conn [] at r = r ≡ rests at
Serves {P} {W} steps draws now conn (f ∷ fs) at r =
    UnlessClosed (is_closed at.stage) at r
    ((t : Turned) × (p : P) × (w : W) × IsFrameTurn steps draws now conn at.stage at.word f at.port at.words t p w
    × IsFollowed (Serves steps draws now conn fs) (f ∷ fs) at.stage t p w r)

-- The turns of some frames from the front (docs/GUARANTEE.md, "A connection").
use Rattle.std.specs.Prelude.{◌≡◌, ◌+◌, ◌<◌, ◌≤◌, ℕ, Bool, true, false, List, [], ◌∷◌, ◌++◌, drop, length, Option, Some, None, Result, Ok, Err}
use Rattle.base.specs.declared.no_memory.NoMemory.{NoMemory}
use Rattle.wire_read.specs.declared.frame.Frame.{Frame}
use Rattle.events.specs.Messages.{Message}
use Rattle.session_plan.specs.declared.stage.Stage.{Stage}
use Rattle.session_plan.specs.declared.plan.Plan.TheVariants.{Publishes}
use Rattle.session_plan.specs.Plans.{plan_of}
use Rattle.session_plan.specs.Replies.{is_closed, room_of, told_text}
use Rattle.events.specs.declared.refusal.PublishRefusal.TheVariants.{By, Held}
use Rattle.events.specs.declared.run.RunEnd.{RunEnd}
use Rattle.events.specs.declared.run.RunEnd.TheVariants as run
use Rattle.session_conn.specs.declared.output.Stall.TheVariants as stall
use Rattle.session_conn.specs.declared.turn.FrameTurn.{FrameTurn}
use Rattle.session_conn.specs.declared.turn.FrameTurn.TheVariants as turn
use Rattle.session_conn.specs.Turns.{Steps, Draws, Turned, Goes, Stalls, turn_after, is_verbose, IsFrameTurned}
use Rattle.session_conn.specs.Serving.{Spot, spot, Served, served, behind, Serves}

-- what is left, once it has had its turns, completes the whole
abbrev pub Completes : {P W : Type 0} → Steps P → Draws W → ℕ → ℕ → List Frame → Spot P W → List ℕ → List Frame → Spot P W → Type 0
Completes {P} {W} steps draws now conn all start text left at =
    (r : Served P W) → Serves steps draws now conn left at r → Serves steps draws now conn all start (behind text r)

-- Turns that came to this: those that are left complete the whole; or the first that is left has stalled. What is told is
-- written behind what was written before.
abbrev pub Went : {P W : Type 0} → Steps P → Draws W → ℕ → ℕ → List Frame → Spot P W → FrameTurn → List ℕ → List ℕ → List Frame → P → W → Type 0
Went steps draws now conn all start (turn.Goes s) before after left p w =
    (text : List ℕ) × (after ≡ before ++ text) × Completes steps draws now conn all start text left (spot p w s None)
Went steps draws now conn all start (turn.Stalls stall word) before after left p w =
    (text : List ℕ) × (after ≡ before ++ text) × Serves steps draws now conn all start (served text left (Some stall) (spot p w start.stage word))

-- where they go on, fewer frames are left
abbrev pub IsNearer : FrameTurn → List Frame → List Frame → Type 0
IsNearer (turn.Goes s) old new = length new < length old
IsNearer (turn.Stalls stall word) old new = Unit {0}

-- ---- messages that are gathered before they are offered

-- a frame publishes this message, there is room for any text about it, and nothing is told where it is published
pub record IsMessageOf (s : Stage) (room : ℕ) (f : Frame) (m : Message) : Type 0 where
  pub plan : (conn : ℕ) → plan_of conn s f ≡ Publishes m
  pub fits : room_of f ≤ room
  pub quiet : is_verbose s ≡ false

-- messages are those of the first frames
unfoldable pub IsAhead : Stage → ℕ → List Frame → List Message → Type 0
IsAhead s room fs [] = Unit {0}
IsAhead s room [] (m ∷ ms) = ⊥
IsAhead s room (f ∷ fs) (m ∷ ms) = IsMessageOf s room f m × IsAhead s room fs ms

-- the same behind turns that have left the connection open
abbrev pub IsAheadAfter : FrameTurn → ℕ → List Frame → List Message → Type 0
IsAheadAfter (turn.Goes s) room fs ms = is_closed s ≡ false → IsAhead s room fs ms
IsAheadAfter (turn.Stalls stall word) room fs ms = Unit {0}

-- a frame's message was added, or was not
abbrev pub IsPut : Bool → Result (Option Message) NoMemory → ℕ → ℕ → List Message → ℕ → List Message → Type 0
IsPut true planned more room ms room' ms' = (m : Message) × (planned ≡ Ok (Some m)) × (ms' ≡ ms ++ m ∷ []) × (room ≤ room') × (more ≤ room')
IsPut false planned more room ms room' ms' = (ms' ≡ ms) × (room' ≡ room)

-- the message of the next frame was added, or was not
abbrev pub IsAdded : Bool → Stage → Frame → ℕ → List Message → ℕ → List Message → Type 0
IsAdded true s f room ms room' ms' = (m : Message) × ((conn : ℕ) → plan_of conn s f ≡ Publishes m) × (ms' ≡ ms ++ m ∷ []) × (room ≤ room') × (room_of f ≤ room')
IsAdded false s f room ms room' ms' = (ms' ≡ ms) × (room' ≡ room)

-- ---- the message that ended a run

-- what its turn comes to
abbrev pub IsLastTold : Stage → Frame → RunEnd → Turned → Type 0
IsLastTold s f run.Published t = t ≡ Goes (told_text [] s)
IsLastTold s f (run.Answered entry) t = t ≡ turn_after s s f None (Ok entry.outcome)
IsLastTold s f (run.Stopped word (By refusal)) t = t ≡ turn_after s s f (Some word) (Err refusal)
IsLastTold s f (run.Stopped word Held) t = t ≡ Stalls stall.Held (Some word)

-- the frames that are left behind its turn
abbrev pub left_after : FrameTurn → List Frame → List Frame
left_after (turn.Goes s) fs = drop 1 fs
left_after (turn.Stalls stall word) fs = fs

-- it is told of the first of these frames
abbrev pub IsToldFirst : Stage → RunEnd → FrameTurn → List ℕ → List ℕ → List Frame → List Frame → Type 0
IsToldFirst s end r before after [] new = Unit {0}
IsToldFirst s end r before after (f ∷ fs) new = IsFrameTurned (λ t. IsLastTold s f end t) r before after × (new ≡ left_after r (f ∷ fs))

-- there is room for any text about the first of these frames
abbrev pub HasRoomFirst : ℕ → ℕ → List Frame → Type 0
HasRoomFirst len capacity [] = Unit {0}
HasRoomFirst len capacity (f ∷ fs) = len + room_of f ≤ capacity

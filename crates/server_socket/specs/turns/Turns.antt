-- What one turn of a ready connection does (docs/GUARANTEE.md, "A connection").
use Rattle.std.specs.Prelude.{◌≡◌, ◌≢◌, ◌⊎◌, ◌≤◌, ⊤, ℕ, Bool, true, false, List, [], ◌++◌, length, Option, Some, None}
use Rattle.std.specs.Io.KnownBytes.{Appends, Consumes, IsAtEnd}
use Rattle.session_conn.specs.declared.output.Output.{Output}
use Rattle.session_conn.specs.declared.output.Stall.{Stall}
use Rattle.session_conn.specs.declared.output.Stall.TheVariants as stall
use Rattle.session_plan.specs.Replies.{is_closed}
use Rattle.session_conn.specs.Turns.{Steps, Draws}
use Rattle.session_conn.specs.Calls.{Connection, IsOpened, IsServed, IsDrained, IsEnded}
use Rattle.server_socket.specs.declared.turns.client.Piece.{Piece}
use Rattle.server_socket.specs.declared.turns.client.Piece.TheVariants as piece
use Rattle.server_socket.specs.declared.turns.turn.Turn.{Turn}
use Rattle.server_socket.specs.declared.turns.turn.Turn.TheVariants.{Done, Idle, Waits, Stalled, Closed, Ended, Failed, Lost}

-- ---- a client

-- a connection, and the bytes that were given for its client and aren't written yet
pub record Client : Type 0 where
  pub conn : Connection
  pub kept : List ℕ

abbrev pub client : Connection → List ℕ → Client
client conn kept = record { conn = conn; kept = kept }

-- a client, the port of its events, and what was written to it, where that is known
pub record State (P : Type 0) : Type 0 where
  pub client : Client
  pub port : P
  pub written : Option (List ℕ)

abbrev pub state : {P : Type 0} → Client → P → Option (List ℕ) → State P
state c p written = record { client = c; port = p; written = written }

-- ---- what is written

-- of these bytes a front is written, and the rest is kept
pub record Writes (before after : Option (List ℕ)) (all kept : List ℕ) : Type 0 where
  pub front : List ℕ
  pub appended : Appends before after front
  pub whole : all ≡ front ++ kept

-- a text is kept behind what was kept, and a front of all is written; or the client isn't told, and a front of what was
-- kept is
abbrev pub IsSaid : List ℕ → Client → Client → Option (List ℕ) → Option (List ℕ) → Type 0
IsSaid text old new before after =
    Writes before after (old.kept ++ text) new.kept ⊎ Writes before after old.kept new.kept

-- all that was kept is written, and then a front of what a call gave
pub record IsToldAll (before after : Option (List ℕ)) (kept : List ℕ) (o : Output) (kept' : List ℕ) : Type 0 where
  pub between : Option (List ℕ)
  pub first : Appends before between kept
  pub rest : Writes between after o.bytes.items kept'

-- ---- what a turn tells of its call

-- a turn ends so where no call was made
abbrev pub is_early : Turn → Bool
is_early Waits = true
is_early Closed = true
is_early Idle = true
is_early Ended = true
is_early Failed = true
is_early Done = false
is_early (Stalled _) = false
is_early Lost = false

-- a turn whose bytes are all written tells what stopped its call, while the connection stands
abbrev pub IsStallTold : Option Stall → Turn → Type 0
IsStallTold s Done = s ≡ None
IsStallTold s (Stalled why) = (s ≡ Some why) × (why ≢ stall.PieceNotTaken)
IsStallTold s Lost = s ≡ Some stall.PieceNotTaken
IsStallTold s Waits = ⊤
IsStallTold s Closed = ⊤
IsStallTold s Failed = ⊤
IsStallTold s Idle = ⊥
IsStallTold s Ended = ⊥

-- ---- turns

-- no call was made: of what waits a front is written
pub record IsFlush {P : Type 0} (a b : State P) (turn : Turn) : Type 0 where
  pub conn : b.client.conn ≡ a.client.conn
  pub port : b.port ≡ a.port
  pub written : Writes a.written b.written a.client.kept b.client.kept
  pub early : is_early turn ≡ true

-- the opening
pub record IsInfo (old new : Client) (before after : Option (List ℕ)) (turn : Turn) : Type 0 where
  pub output : Output
  pub opened : IsOpened old.conn.conn output
  pub conn : new.conn ≡ old.conn
  pub told : IsToldAll before after old.kept output new.kept
  pub stall_told : IsStallTold output.stall turn

pub record IsKeptWritten (old new : Client) (before after : Option (List ℕ)) (turn : Turn) : Type 0 where
  pub conn : new.conn ≡ old.conn
  pub written : Writes before after old.kept new.kept
  pub early : is_early turn ≡ true

abbrev pub IsOpening : Client → Client → Option (List ℕ) → Option (List ℕ) → Turn → Type 0
IsOpening old new before after turn = IsKeptWritten old new before after turn ⊎ IsInfo old new before after turn

-- A piece was read, no longer than the buffer, and empty exactly where frames wait; and the connection was given it. What
-- that gave is written first of all that is written later.
pub record IsFed {P W : Type 0} (steps : Steps P) (draws : Draws W) (now most : ℕ) (a : State P) (w : W) (left : Option (List ℕ)) (b : State P) (w' : W) (left' : Option (List ℕ)) (turn : Turn) : Type 0 where
  pub piece : List ℕ
  pub output : Output
  pub within : length piece ≤ most
  pub read : Consumes left left' piece
  pub some : a.client.conn.stall ≡ None → piece ≢ []
  pub none : a.client.conn.stall ≢ None → piece ≡ []
  pub served : IsServed steps draws now piece a.client.conn a.port w output b.client.conn b.port w'
  pub told : IsToldAll a.written b.written a.client.kept output b.client.kept
  pub stall_told : IsStallTold output.stall turn

-- nothing was read
pub record IsUnread {P W : Type 0} (a : State P) (w : W) (left : Option (List ℕ)) (b : State P) (w' : W) (left' : Option (List ℕ)) (turn : Turn) : Type 0 where
  pub flush : IsFlush a b turn
  pub words : w' ≡ w
  pub read : Consumes left left' []

abbrev pub IsServing : {P W : Type 0} → Steps P → Draws W → ℕ → ℕ → State P → W → Option (List ℕ) → State P → W → Option (List ℕ) → Turn → Type 0
IsServing steps draws now most a w left b w' left' turn = IsUnread a w left b w' left' turn ⊎ IsFed steps draws now most a w left b w' left' turn

-- one drain was made
pub record IsTaken {P : Type 0} (steps : Steps P) (now most : ℕ) (a b : State P) (turn : Turn) : Type 0 where
  pub output : Output
  pub drained : IsDrained steps now most a.client.conn a.port output b.client.conn b.port
  pub told : IsToldAll a.written b.written a.client.kept output b.client.kept
  pub stall_told : IsStallTold output.stall turn

abbrev pub IsDraining : {P : Type 0} → Steps P → ℕ → ℕ → State P → State P → Turn → Type 0
IsDraining steps now most a b turn = IsFlush a b turn ⊎ IsTaken steps now most a b turn

-- the end: what is kept is dropped, and the connection ends
pub record IsOver {P : Type 0} (steps : Steps P) (now : ℕ) (old : Client) (p : P) (stall : Option Stall) (new : Client) (p' : P) : Type 0 where
  pub output : Output
  pub ended : IsEnded steps now old.conn p output new.conn p'
  pub stall_is : stall ≡ output.stall
  pub kept : new.kept ≡ []

-- ---- how a turn ends

abbrev pub is_over : Turn → Bool
is_over Closed = true
is_over Ended = true
is_over Failed = true
is_over Lost = true
is_over Done = false
is_over Idle = false
is_over Waits = false
is_over (Stalled _) = false

-- what was kept is written, and nothing has failed
pub record IsWritten (kept : List ℕ) (failed failed' : Bool) : Type 0 where
  pub none : kept ≡ []
  pub fine : failed' ≡ failed

abbrev pub IsTurn : Client → Bool → Bool → Bool → Turn → Type 0
IsTurn c failed failed' waits Waits = (c.kept ≢ []) × (waits ≡ true) × (failed' ≡ failed)
IsTurn c failed failed' waits Failed = failed' ≡ true
IsTurn c failed failed' waits Closed = IsWritten c.kept failed failed' × (is_closed c.conn.stage ≡ true)
IsTurn c failed failed' waits Done = IsWritten c.kept failed failed' × (is_closed c.conn.stage ≡ false)
IsTurn c failed failed' waits (Stalled _) = IsWritten c.kept failed failed' × (is_closed c.conn.stage ≡ false)
IsTurn c failed failed' waits Lost = IsWritten c.kept failed failed'
IsTurn c failed failed' waits Idle = IsWritten c.kept failed failed'
IsTurn c failed failed' waits Ended = IsWritten c.kept failed failed'

-- nothing was to be read
abbrev pub IsNoRead : Turn → Type 0
IsNoRead t = (t ≢ Idle) × (t ≢ Ended)

-- all that was kept is written and the connection stands, or the turn ends without a call, whatever stopped one
abbrev pub IsWrittenOut : Client → Bool → Bool → Bool → Option Turn → Type 0
IsWrittenOut c failed failed' waits None = IsTurn c failed failed' waits Done
IsWrittenOut c failed failed' waits (Some turn) =
    IsTurn c failed failed' waits turn × (is_early turn ≡ true) × IsNoRead turn × ((s : Option Stall) → IsStallTold s turn)

-- the same where the reader may have failed
abbrev pub IsReadTurn : Client → Bool → Bool → Bool → Bool → Bool → Turn → Type 0
IsReadTurn c read_failed read_failed' failed failed' waits Failed = (read_failed' ≡ true) ⊎ (failed' ≡ true)
IsReadTurn c read_failed read_failed' failed failed' waits Waits = (read_failed' ≡ read_failed) × IsTurn c failed failed' waits Waits
IsReadTurn c read_failed read_failed' failed failed' waits Closed = (read_failed' ≡ read_failed) × IsTurn c failed failed' waits Closed
IsReadTurn c read_failed read_failed' failed failed' waits Done = (read_failed' ≡ read_failed) × IsTurn c failed failed' waits Done
IsReadTurn c read_failed read_failed' failed failed' waits (Stalled s) = (read_failed' ≡ read_failed) × IsTurn c failed failed' waits (Stalled s)
IsReadTurn c read_failed read_failed' failed failed' waits Lost = (read_failed' ≡ read_failed) × IsTurn c failed failed' waits Lost
IsReadTurn c read_failed read_failed' failed failed' waits Idle = (read_failed' ≡ read_failed) × IsTurn c failed failed' waits Idle
IsReadTurn c read_failed read_failed' failed failed' waits Ended = (read_failed' ≡ read_failed) × IsTurn c failed failed' waits Ended

-- how long a piece is
abbrev pub piece_length : Piece → ℕ
piece_length (piece.Read count) = count
piece_length piece.Later = 0
piece_length piece.Last = 0
piece_length piece.Failed = 0

-- why there is none
abbrev pub IsPiece : Option (List ℕ) → Bool → Bool → Bool → Piece → Type 0
IsPiece left failed failed' waits (piece.Read count) = failed' ≡ failed
IsPiece left failed failed' waits piece.Later = (failed' ≡ failed) × (waits ≡ true)
IsPiece left failed failed' waits piece.Last = (failed' ≡ failed) × IsAtEnd left
IsPiece left failed failed' waits piece.Failed = failed' ≡ true

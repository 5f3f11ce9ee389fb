-- A piece that is read while the connection is open.
use Rattle.std.proofs.Common.{◌≡◌, ℕ, List, Bool, true, false, inr}
use Rattle.session_conn.specs.declared.output.Output.{Output}
use Rattle.session_plan.specs.Replies.{is_closed}
use Rattle.session_conn.specs.Turns.{Steps, Draws}
use Rattle.session_conn.specs.Calls.{Connection, IsRead, IsServedAt, IsServed}

read_at : {P W : Type 0} (steps : Steps P) (draws : Draws W) (now : ℕ) (piece : List ℕ) (old : Connection) (p : P) (w : W) (o : Output) (new : Connection) (p' : P) (w' : W) (closed : Bool) →
    closed ≡ false → IsRead steps draws now piece old p w o new p' w' → IsServedAt steps draws now piece old p w o new p' w' closed
read_at steps draws now piece old p w o new p' w' true h r = absurd (cc)
read_at steps draws now piece old p w o new p' w' false h r = inr r

pub read_open : {P W : Type 0} (steps : Steps P) (draws : Draws W) (now : ℕ) (piece : List ℕ) (old : Connection) (p : P) (w : W) (o : Output) (new : Connection) (p' : P) (w' : W) →
    is_closed old.stage ≡ false → IsRead steps draws now piece old p w o new p' w' → IsServed steps draws now piece old p w o new p' w'
read_open steps draws now piece old p w o new p' w' = read_at steps draws now piece old p w o new p' w' (is_closed old.stage)

-- A fresh client: no CONNECT of it was accepted.
use Rattle.std.specs.Prelude.{◌≤◌, ◌≡◌, ◌&&◌, Bool, true, not, length}
use Rattle.session_plan.specs.declared.stage.Stage.{Stage}
use Rattle.session_plan.specs.Replies.{is_connected, is_closed}
use Rattle.session_conn.specs.Calls.{Connection}

-- no CONNECT of it was accepted, and it may still send one
abbrev pub is_fresh : Stage → Bool
is_fresh stage = not (is_connected stage) && not (is_closed stage)

-- of such a client at most 8,192 bytes are kept
abbrev pub IsBounded : Connection → Type 0
IsBounded c = is_fresh c.stage ≡ true → length c.reader.rest ≤ 8192

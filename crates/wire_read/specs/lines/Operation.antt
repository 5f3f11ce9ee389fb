-- The operations that a client may name (NATS documentation, "Client Protocol").
use Rattle.std.specs.Prelude.{ℕ, List, Option, Some, None, codes, if◌then◌else◌}
use Rattle.std.specs.Str.{str_eq_ignore_ascii_case}
use Rattle.wire_read.specs.declared.lines.operation.Operation.{Operation}
use Rattle.wire_read.specs.declared.lines.operation.Operation.TheVariants.{Connect, Pub, Hpub, Sub, Unsub, Ping, Pong}

-- the operation that a field names, in any case of letters
unfoldable pub operation : List ℕ → Option Operation
operation field =
    if str_eq_ignore_ascii_case field (codes "CONNECT") then Some Connect
    else if str_eq_ignore_ascii_case field (codes "PUB") then Some Pub
    else if str_eq_ignore_ascii_case field (codes "HPUB") then Some Hpub
    else if str_eq_ignore_ascii_case field (codes "SUB") then Some Sub
    else if str_eq_ignore_ascii_case field (codes "UNSUB") then Some Unsub
    else if str_eq_ignore_ascii_case field (codes "PING") then Some Ping
    else if str_eq_ignore_ascii_case field (codes "PONG") then Some Pong
    else None

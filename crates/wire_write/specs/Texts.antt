-- The lines that the server writes (NATS documentation, "Client Protocol"; docs/PROTOCOL.md).
use Rattle.std.specs.Prelude.{ℕ, ◌+◌, List, ◌++◌, length, codes, decimal, Option, Some, None}

-- what the server says of itself at a connection's opening, by its JSON
abbrev pub info_line : List ℕ → List ℕ
info_line info = codes "INFO " ++ info ++ codes "\r\n"

-- where a message goes: its subject, the subscription `sid`, and the subject for answers if it has one
abbrev pub address : List ℕ → List ℕ → Option (List ℕ) → List ℕ
address subject sid None = subject ++ codes " " ++ sid ++ codes " "
address subject sid (Some reply) = subject ++ codes " " ++ sid ++ codes " " ++ reply ++ codes " "

-- how much longer a subject for answers makes it
abbrev pub reply_room : Option (List ℕ) → ℕ
reply_room None = 0
reply_room (Some reply) = length reply + 1

-- a payload behind its size in bytes
abbrev pub sized : List ℕ → List ℕ
sized payload = decimal (length payload) ++ codes "\r\n" ++ payload ++ codes "\r\n"

-- a message, with the size of its payload in bytes
abbrev pub msg_line : List ℕ → List ℕ → Option (List ℕ) → List ℕ → List ℕ
msg_line subject sid reply payload =
    codes "MSG " ++ address subject sid reply ++ decimal (length payload) ++ codes "\r\n"
    ++ payload ++ codes "\r\n"

-- the end of a line, and the header block and the payload behind it
abbrev pub body : List ℕ → List ℕ → List ℕ
body head payload = codes "\r\n" ++ head ++ payload ++ codes "\r\n"

-- a message with a header block, with the size of the block in bytes and that of the block and the payload
abbrev pub hmsg_line : List ℕ → List ℕ → Option (List ℕ) → List ℕ → List ℕ → List ℕ
hmsg_line subject sid reply head payload =
    codes "HMSG " ++ address subject sid reply ++ decimal (length head) ++ codes " " ++ decimal (length head + length payload) ++ body head payload

-- the answer to an accepted protocol message of a verbose client
abbrev pub ok_line : List ℕ
ok_line = codes "+OK\r\n"

-- the answer to a PING
abbrev pub pong_line : List ℕ
pong_line = codes "PONG\r\n"

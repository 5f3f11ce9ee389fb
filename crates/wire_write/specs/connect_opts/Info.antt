-- What the server says of itself in INFO (NATS documentation, "Client Protocol", "INFO"; docs/PROTOCOL.md).
use Rattle.std.specs.Prelude.{ℕ, List, ◌++◌, codes, decimal}

-- the JSON of INFO, by the connection's number
abbrev pub info_text : ℕ → List ℕ
info_text conn =
    codes "{\"auth_required\":true,\"client_id\":" ++ decimal conn
    ++ codes ",\"headers\":true,\"max_payload\":1048576,\"proto\":1,\"server_id\":\"natsd\",\"version\":\"0.1.0\"}"

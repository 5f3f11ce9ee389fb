-- The JSON value of a text (RFC 8259).
use Rattle.std.specs.Prelude.{ℕ, List, Option, None, if◌then◌else◌}
use Rattle.std.specs.Str.{is_utf8}
use Rattle.serde_json.specs.Data.{Data}
use Rattle.serde_json.specs.Read.{read}

-- a text that is no UTF-8, or no JSON, has none; of members with equal keys the last stays
abbrev pub json_of : List ℕ → Option Data
json_of text = if is_utf8 text then read text else None

-- What the text of a CONNECT says (NATS documentation, "Client Protocol", "CONNECT"; docs/PROTOCOL.md).
use Rattle.std.specs.Prelude.{ℕ, Bool, true, false, List, [], codes, Option, Some, None, Ok, Err, if◌then◌else◌, is_some, unwrap_or}
use Rattle.std.specs.Option.{ok_or}
use Rattle.serde_json.specs.Data.{Data, null, boolean, number, string, array, object}
use Rattle.serde_json.specs.Find.{get, as_object}
use Rattle.json_text.specs.Json.{json_of}
use Rattle.wire_write.specs.declared.connect_opts.error.ConnectError.TheVariants.{NotJson, NotObject, FieldType}
use Rattle.wire_write.specs.declared.connect_opts.opts.ConnectOpts.{ConnectOpts}
use Rattle.wire_write.specs.connect_opts.Read.{Read, ◌>>=◌}

abbrev pub json_at : List ℕ → Read Data
json_at text = ok_or (json_of text) NotJson

-- the value has to be an object
abbrev pub object_from : Data → Read Data
object_from d = if is_some (as_object d) then Ok d else Err NotObject

abbrev pub object_at : List ℕ → Read Data
object_at text = do
  d ← json_at text
  object_from d

-- a text is taken; null counts as absent
abbrev pub text_of : Option Data → Read (Option (List ℕ))
text_of None = Ok None
text_of (Some null) = Ok None
text_of (Some (string text)) = Ok (Some text)
text_of (Some (boolean _)) = Err FieldType
text_of (Some (number _)) = Err FieldType
text_of (Some (array _)) = Err FieldType
text_of (Some (object _)) = Err FieldType

-- a truth value is taken; null counts as absent
abbrev pub truth_of : Option Data → Read (Option Bool)
truth_of None = Ok None
truth_of (Some null) = Ok None
truth_of (Some (boolean truth)) = Ok (Some truth)
truth_of (Some (string _)) = Err FieldType
truth_of (Some (number _)) = Err FieldType
truth_of (Some (array _)) = Err FieldType
truth_of (Some (object _)) = Err FieldType

abbrev pub text_field : List ℕ → Data → Read (Option (List ℕ))
text_field key d = text_of (get key d)

abbrev pub truth_field : List ℕ → Data → Read (Option Bool)
truth_field key d = truth_of (get key d)

-- The options that a text gives, or why it is refused. An absent password is empty, `verbose` and `echo` are true
-- where they are absent, and `headers` is false. Fields that the server doesn't know count for nothing.
unfoldable pub opts_of : List ℕ → Read ConnectOpts
opts_of text = do
  d ← object_at text
  user ← text_field (codes "user") d
  password ← text_field (codes "pass") d
  verbose ← truth_field (codes "verbose") d
  echo ← truth_field (codes "echo") d
  headers ← truth_field (codes "headers") d
  Ok (record {
    user = user;
    password = unwrap_or password [];
    verbose = unwrap_or verbose true;
    echo = unwrap_or echo true;
    headers = unwrap_or headers false;
  })

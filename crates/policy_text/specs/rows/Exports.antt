-- The exports that a JSON value writes, or its first fault (docs/POLICY.md, "Exports and imports").
-- A null counts as a value of another kind, and not as absent.
use Rattle.std.specs.Prelude.{◌∷◌, ℕ, Bool, true, false, List, [], codes, if◌then◌else◌, Option, Some, None, Ok, Err}
use Rattle.std.specs.Str.{bytes_eq}
use Rattle.serde_json.specs.Data.{Data}
use Rattle.serde_json.specs.Find.{get}
use Rattle.policy_doc.specs.declared.exports.document.Kind.TheVariants.{Stream, Service}
use Rattle.policy_doc.specs.declared.exports.document.ExportDoc.{ExportDoc}
use Rattle.policy_doc.specs.declared.exports.document.ResponseTerms.{ResponseTerms}
use Rattle.policy_walk.specs.declared.fault.ConfigFault.TheVariants.{WrongType}
use Rattle.policy_walk.specs.Fault.{Read, ◌>>=◌}
use Rattle.policy_walk.specs.Path.{Path, at_key}
use Rattle.policy_walk.specs.Object.{Row, judged}
use Rattle.policy_walk.specs.Texts.{text_at}
use Rattle.policy_walk.specs.Lists.{list_at, list_under}
use Rattle.policy_permissions.specs.Permissions.{duration_at}
use Rattle.policy_text.specs.rows.Names.{account_name_at, pattern_at, row_at}

-- ---- the tables: a key of each object, and whether it must be there

abbrev pub stream_rows : List Row
stream_rows = (codes "stream", true) ∷ (codes "accounts", false) ∷ []

abbrev pub service_rows : List Row
service_rows = (codes "service", true) ∷ (codes "accounts", false) ∷ (codes "response_type", false) ∷ (codes "response_ttl", false) ∷ []

-- the keys of exports of either kind
abbrev pub either_rows : List Row
either_rows = (codes "stream", false) ∷ (codes "service", false) ∷ (codes "accounts", false) ∷ (codes "response_type", false) ∷ (codes "response_ttl", false) ∷ []

-- without a list it is public
abbrev pub accounts_under : Path → Option Data → Read (Option (List (List ℕ)))
accounts_under path None = Ok None
accounts_under path (Some d) = do
  names ← list_at account_name_at path d
  Ok (Some names)

-- one response, or a stream of them
abbrev pub single_from : Path → List ℕ → Read Bool
single_from path text =
    if bytes_eq text (codes "single") then Ok true
    else (if bytes_eq text (codes "stream") then Ok false else Err (WrongType path))

unfoldable pub single_at : Path → Data → Read Bool
single_at path d = do
  text ← text_at path d
  single_from path text

abbrev pub single_under : Path → Option Data → Read Bool
single_under path None = Ok true
single_under path (Some d) = single_at path d

-- two minutes, where no other time is given
abbrev pub ttl_under : Path → Option Data → Read ℕ
ttl_under path None = Ok 120000
ttl_under path (Some d) = duration_at path d

unfoldable pub response_at : Path → Data → Read ResponseTerms
response_at path d = do
  single ← single_under (at_key path (codes "response_type")) (get (codes "response_type") d)
  ttl ← ttl_under (at_key path (codes "response_ttl")) (get (codes "response_ttl") d)
  Ok (record { ttl = ttl; single = single })

-- the terms where none are given
abbrev pub usual_response : ResponseTerms
usual_response = record { ttl = 120000; single = true }

unfoldable pub stream_at : Path → Data → Read ExportDoc
stream_at path d = do
  known ← judged stream_rows path d
  subject ← pattern_at (codes "stream") path d
  accounts ← accounts_under (at_key path (codes "accounts")) (get (codes "accounts") d)
  Ok (record { kind = Stream; subject = subject; accounts = accounts; response = usual_response })

unfoldable pub service_at : Path → Data → Read ExportDoc
service_at path d = do
  known ← judged service_rows path d
  subject ← pattern_at (codes "service") path d
  accounts ← accounts_under (at_key path (codes "accounts")) (get (codes "accounts") d)
  response ← response_at path d
  Ok (record { kind = Service; subject = subject; accounts = accounts; response = response })

abbrev pub export_at : Path → Data → Read ExportDoc
export_at = row_at stream_at service_at either_rows

-- absent exports are none
abbrev pub exports_under : Path → Option Data → Read (List ExportDoc)
exports_under = list_under export_at

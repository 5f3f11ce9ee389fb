-- The imports that a JSON value writes, or its first fault (docs/POLICY.md, "Exports and imports").
-- A null counts as a value of another kind, and not as absent.
use Rattle.std.specs.Prelude.{◌∷◌, ℕ, true, false, List, [], codes, Option, Some, None, Ok}
use Rattle.std.specs.Option.{ok_or}
use Rattle.serde_json.specs.Data.{Data}
use Rattle.serde_json.specs.Find.{get}
use Rattle.subjects.specs.Subject.{Token}
use Rattle.subjects.specs.Fault.{subject_if}
use Rattle.policy_doc.specs.declared.exports.document.Kind.TheVariants.{Stream, Service}
use Rattle.policy_doc.specs.declared.document.ImportDoc.{ImportDoc}
use Rattle.policy_walk.specs.declared.fault.ConfigFault.TheVariants.{BadSubject}
use Rattle.policy_walk.specs.Fault.{Read, ◌>>=◌}
use Rattle.policy_walk.specs.Path.{Path, at_key}
use Rattle.policy_walk.specs.Object.{Row, judged, required_at}
use Rattle.policy_walk.specs.Texts.{text_at, required_text_at}
use Rattle.policy_walk.specs.Lists.{list_under}
use Rattle.policy_text.specs.rows.Names.{account_name_from, pattern_at, row_at}
use Rattle.policy_text.specs.declared.rows.import_row.Source.{Source}

-- ---- the tables: a key of each object, and whether it must be there

abbrev pub stream_rows : List Row
stream_rows = (codes "stream", true) ∷ (codes "to", false) ∷ (codes "prefix", false) ∷ []

abbrev pub service_rows : List Row
service_rows = (codes "service", true) ∷ (codes "to", false) ∷ []

-- the keys of imports of either kind
abbrev pub either_rows : List Row
either_rows = (codes "stream", false) ∷ (codes "service", false) ∷ (codes "to", false) ∷ (codes "prefix", false) ∷ []

abbrev pub source_rows : List Row
source_rows = (codes "account", true) ∷ (codes "subject", true) ∷ []

-- ---- what is imported, and under which names

unfoldable pub account_at : Path → Data → Read (List ℕ)
account_at path d = do
  name ← required_text_at (codes "account") path d
  account_name_from (at_key path (codes "account")) name

abbrev pub source_of : List ℕ → List Token → Source
source_of account subject = record { account = account; subject = subject }

unfoldable pub source_at : Path → Data → Read Source
source_at path d = do
  known ← judged source_rows path d
  account ← account_at path d
  subject ← pattern_at (codes "subject") path d
  Ok (source_of account subject)

-- what stands under the key of a row's kind
unfoldable pub source_in : List ℕ → Path → Data → Read Source
source_in key path d = do
  value ← required_at key path d
  source_at (at_key path key) value

-- any text
abbrev pub to_under : Path → Option Data → Read (Option (List ℕ))
to_under path None = Ok None
to_under path (Some d) = do
  text ← text_at path d
  Ok (Some text)

abbrev pub subject_from : Path → List ℕ → Read (List Token)
subject_from path text = ok_or (subject_if text) (BadSubject path)

abbrev pub prefix_under : Path → Option Data → Read (Option (List Token))
prefix_under path None = Ok None
prefix_under path (Some d) = do
  text ← text_at path d
  prefix ← subject_from path text
  Ok (Some prefix)

unfoldable pub stream_at : Path → Data → Read ImportDoc
stream_at path d = do
  known ← judged stream_rows path d
  source ← source_in (codes "stream") path d
  to ← to_under (at_key path (codes "to")) (get (codes "to") d)
  prefix ← prefix_under (at_key path (codes "prefix")) (get (codes "prefix") d)
  Ok (record { kind = Stream; account = source.account; subject = source.subject; to = to; prefix = prefix })

unfoldable pub service_at : Path → Data → Read ImportDoc
service_at path d = do
  known ← judged service_rows path d
  source ← source_in (codes "service") path d
  to ← to_under (at_key path (codes "to")) (get (codes "to") d)
  Ok (record { kind = Service; account = source.account; subject = source.subject; to = to; prefix = None })

abbrev pub import_at : Path → Data → Read ImportDoc
import_at = row_at stream_at service_at either_rows

-- absent imports are none
abbrev pub imports_under : Path → Option Data → Read (List ImportDoc)
imports_under = list_under import_at

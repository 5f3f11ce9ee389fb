-- The permissions that a JSON value writes, or its first fault (docs/POLICY.md, "Permissions").
-- A null counts as a value of another kind, and not as absent.
use Rattle.std.specs.Prelude.{◌&&◌, ◌∷◌, ℕ, ℤ, negsuc, Bool, true, false, List, [], codes, if◌then◌else◌, Option, Some, None, Ok, Err, is_some, nat_le, option_and_then}
use Rattle.std.specs.Option.{ok_or}
use Rattle.std.specs.Ordering.{int_eq}
use Rattle.serde_json.specs.Data.{Data}
use Rattle.serde_json.specs.Find.{get, as_bool, as_str, as_object, as_number, as_i64, as_u64}
use Rattle.policy_walk.specs.Durations.{duration_of}
use Rattle.policy_doc.specs.declared.permission_doc.document.Terms.{Terms}
use Rattle.subjects.specs.Subject.{Token}
use Rattle.subjects.specs.Fault.{pattern_if}
use Rattle.policy_doc.specs.declared.permission_doc.document.PermDoc.{PermDoc}
use Rattle.policy_doc.specs.declared.permission_doc.document.Direction.{Direction}
use Rattle.policy_doc.specs.declared.permission_doc.document.PermEntry.{PermEntry}
use Rattle.policy_walk.specs.declared.fault.ConfigFault.TheVariants.{WrongType, BadSubject, BadDuration, BadMax}
use Rattle.policy_permissions.specs.declared.entry.Side.{Side}
use Rattle.policy_permissions.specs.declared.entry.Side.TheVariants.{Publish, Subscribe}
use Rattle.policy_walk.specs.Fault.{Read, ◌>>=◌}
use Rattle.policy_walk.specs.Path.{Path, at_key}
use Rattle.policy_permissions.specs.Entry.{entry_parts}
use Rattle.policy_walk.specs.Object.{Row, judged}
use Rattle.policy_walk.specs.Texts.{text_at}
use Rattle.policy_walk.specs.Lists.{list_at}

-- ---- the tables: a key of each object, and whether it must be there

abbrev pub permission_rows : List Row
permission_rows = (codes "publish", false) ∷ (codes "pub", false) ∷ (codes "subscribe", false) ∷ (codes "sub", false) ∷ (codes "allow_responses", false) ∷ []

abbrev pub terms_rows : List Row
terms_rows = (codes "max", false) ∷ (codes "expires", false) ∷ []

abbrev pub direction_rows : List Row
direction_rows = (codes "allow", false) ∷ (codes "deny", false) ∷ []

-- ---- permissions

abbrev pub pattern_from : Path → List ℕ → Read (List Token)
pattern_from path text = ok_or (pattern_if text) (BadSubject path)

abbrev pub queue_from : Path → Option (List ℕ) → Read (Option (List Token))
queue_from path None = Ok None
queue_from path (Some text) = do
  queue ← pattern_from path text
  Ok (Some queue)

-- a pattern, and a queue part if there is one
abbrev pub parts_from : Path → List ℕ × Option (List ℕ) → Read PermEntry
parts_from path parts = do
  subject ← pattern_from path parts.0
  queue ← queue_from path parts.1
  Ok (record { subject = subject; queue = queue })

-- in a publish list an entry is a pattern alone
abbrev pub entry_from : Side → Path → List ℕ → Read PermEntry
entry_from Publish path text = parts_from path (text, None)
entry_from Subscribe path text = parts_from path (entry_parts text)

unfoldable pub entry_at : Side → Path → Data → Read PermEntry
entry_at side path d = do
  text ← text_at path d
  entry_from side path text

-- one entry that is a text, or a list of them
unfoldable pub entries_at : Side → Path → Data → Read (List PermEntry)
entries_at side path d =
    if is_some (as_str d) then (do
      entry ← entry_at side path d
      Ok (entry ∷ []))
    else list_at (entry_at side) path d

-- the entries under a key, if it is there
abbrev pub entries_under : Side → Path → Option Data → Read (Option (List PermEntry))
entries_under side path None = Ok None
entries_under side path (Some d) = do
  entries ← entries_at side path d
  Ok (Some entries)

abbrev pub or_empty : {X : Type 0} → Option (List X) → List X
or_empty None = []
or_empty (Some xs) = xs

-- an allow and a deny list, each if it is there
unfoldable pub lists_at : Side → Path → Data → Read Direction
lists_at side path d = do
  known ← judged direction_rows path d
  allow ← entries_under side (at_key path (codes "allow")) (get (codes "allow") d)
  deny ← entries_under side (at_key path (codes "deny")) (get (codes "deny") d)
  Ok (record { allow = allow; deny = or_empty deny })

-- a text or a list of texts is an allow list
unfoldable pub allow_at : Side → Path → Data → Read Direction
allow_at side path d = do
  entries ← entries_at side path d
  Ok (record { allow = Some entries; deny = [] })

abbrev pub direction_at : Side → Path → Data → Read Direction
direction_at side path d = if is_some (as_object d) then lists_at side path d else allow_at side path d

-- a direction has two spellings of its key, of which one may be there; without either it allows all
abbrev pub spelled_from : Side → Path → Path → Option Data → Option Data → Read Direction
spelled_from side long short None None = Ok (record { allow = None; deny = [] })
spelled_from side long short (Some d) None = direction_at side long d
spelled_from side long short None (Some d) = direction_at side short d
spelled_from side long short (Some d) (Some e) = Err (WrongType short)

abbrev pub spelled_at : Side → List ℕ → List ℕ → Path → Data → Read Direction
spelled_at side long short path d = spelled_from side (at_key path long) (at_key path short) (get long d) (get short d)

-- ---- terms to respond on

-- at most so many responses
abbrev pub is_bound : ℕ → Bool
is_bound n = nat_le 1 n && nat_le n 2147483647

-- a number from 0 on is a bound, if it may be one; of those below it -1 is no bound
abbrev pub max_from : Path → Option ℕ → Option ℤ → Read (Option ℕ)
max_from path (Some n) z = if is_bound n then Ok (Some n) else Err (BadMax path)
max_from path None None = Err (WrongType path)
max_from path None (Some z) = if int_eq z (negsuc 0) then Ok None else Err (BadMax path)

-- a number with a point isn't whole
abbrev pub max_at : Path → Data → Read (Option ℕ)
max_at path d = max_from path (option_and_then as_u64 (as_number d)) (option_and_then as_i64 (as_number d))

-- without a bound that is given, one response may pass
abbrev pub max_under : Path → Option Data → Read (Option ℕ)
max_under path None = Ok (Some 1)
max_under path (Some d) = max_at path d

abbrev pub duration_from : Path → List ℕ → Read ℕ
duration_from path text = ok_or (duration_of text) (BadDuration path)

unfoldable pub duration_at : Path → Data → Read ℕ
duration_at path d = do
  text ← text_at path d
  duration_from path text

-- without a limit that is given there is none
abbrev pub expires_under : Path → Option Data → Read (Option ℕ)
expires_under path None = Ok None
expires_under path (Some d) = do
  expires ← duration_at path d
  Ok (Some expires)

unfoldable pub terms_at : Path → Data → Read Terms
terms_at path d = do
  known ← judged terms_rows path d
  max ← max_under (at_key path (codes "max")) (get (codes "max") d)
  expires ← expires_under (at_key path (codes "expires")) (get (codes "expires") d)
  Ok (record { max = max; expires = expires })

-- one response, at any time
abbrev pub one_answer : Terms
one_answer = record { max = Some 1; expires = None }

-- true is one response, false none, and an object has terms
abbrev pub responses_from : Path → Data → Option Bool → Read (Option Terms)
responses_from path d (Some true) = Ok (Some one_answer)
responses_from path d (Some false) = Ok None
responses_from path d None = do
  terms ← terms_at path d
  Ok (Some terms)

abbrev pub responses_at : Path → Data → Read (Option Terms)
responses_at path d = responses_from path d (as_bool d)

abbrev pub responses_under : Path → Option Data → Read (Option Terms)
responses_under path None = Ok None
responses_under path (Some d) = responses_at path d

unfoldable pub allow_responses_at : Path → Data → Read (Option Terms)
allow_responses_at path d = responses_under (at_key path (codes "allow_responses")) (get (codes "allow_responses") d)

unfoldable pub permissions_at : Path → Data → Read PermDoc
permissions_at path d = do
  known ← judged permission_rows path d
  publish ← spelled_at Publish (codes "publish") (codes "pub") path d
  subscribe ← spelled_at Subscribe (codes "subscribe") (codes "sub") path d
  allow_responses ← allow_responses_at path d
  Ok (record { publish = publish; subscribe = subscribe; allow_responses = allow_responses })

abbrev pub permissions_under : Path → Option Data → Read (Option PermDoc)
permissions_under path None = Ok None
permissions_under path (Some d) = do
  permissions ← permissions_at path d
  Ok (Some permissions)

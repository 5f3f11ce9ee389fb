-- What exports and imports have alike: names, patterns under a key, and the kind of a row (docs/POLICY.md, "Objects",
-- "Exports and imports").
use Rattle.std.specs.Prelude.{◌==◌, ◌&&◌, ℕ, Bool, true, false, not, List, length, if◌then◌else◌, Option, Some, None, Ok, Err, codes, is_some, nat_le, nat_lt}
use Rattle.std.specs.List.{list_all}
use Rattle.serde_json.specs.Data.{Data}
use Rattle.serde_json.specs.Find.{get}
use Rattle.subjects.specs.Subject.{Token}
use Rattle.policy_doc.specs.declared.exports.document.Kind.{Kind}
use Rattle.policy_doc.specs.declared.exports.document.Kind.TheVariants.{Stream, Service}
use Rattle.policy_walk.specs.declared.fault.ConfigFault.TheVariants.{BadName, WrongType}
use Rattle.policy_walk.specs.Fault.{Read, ◌>>=◌}
use Rattle.policy_walk.specs.Path.{Path, at_key}
use Rattle.policy_walk.specs.Object.{Row, judged}
use Rattle.policy_walk.specs.Texts.{required_text_at, text_at}
use Rattle.policy_permissions.specs.Permissions.{pattern_from}

abbrev pub has_name_length : List ℕ → Bool
has_name_length name = not (length name == 0) && nat_le (length name) 256

-- no control byte, no space, no DEL
abbrev pub is_account_byte : ℕ → Bool
is_account_byte b = not (nat_lt b 33) && not (b == 127)

abbrev pub is_account_name : List ℕ → Bool
is_account_name name = has_name_length name && list_all is_account_byte name

abbrev pub account_name_from : Path → List ℕ → Read (List ℕ)
account_name_from path name = if is_account_name name then Ok name else Err (BadName path)

unfoldable pub account_name_at : Path → Data → Read (List ℕ)
account_name_at path d = do
  name ← text_at path d
  account_name_from path name

-- the pattern under a key that has to be there
unfoldable pub pattern_at : List ℕ → Path → Data → Read (List Token)
pattern_at key path d = do
  text ← required_text_at key path d
  pattern_from (at_key path key) text

-- the kind of a row of which one of two keys has to be there
abbrev pub kind_by : Bool → Bool → Option Kind
kind_by true false = Some Stream
kind_by false true = Some Service
kind_by true true = None
kind_by false false = None

-- a stream or a service, where just one of the two keys is there
abbrev pub kind_of : Data → Option Kind
kind_of d = kind_by (is_some (get (codes "stream") d)) (is_some (get (codes "service") d))

-- a row with neither of the two keys, or with both: it is a fault, behind a key that neither kind has
unfoldable pub kindless_at : {X : Type 0} → List Row → Path → Data → Read X
kindless_at rows path d = do
  known ← judged rows path d
  Err (WrongType path)

-- a row of either kind
abbrev pub row_by : {X : Type 0} → (Path → Data → Read X) → (Path → Data → Read X) → List Row → Path → Data → Option Kind → Read X
row_by stream service rows path d (Some Stream) = stream path d
row_by stream service rows path d (Some Service) = service path d
row_by stream service rows path d None = kindless_at rows path d

abbrev pub row_at : {X : Type 0} → (Path → Data → Read X) → (Path → Data → Read X) → List Row → Path → Data → Read X
row_at stream service rows path d = row_by stream service rows path d (kind_of d)

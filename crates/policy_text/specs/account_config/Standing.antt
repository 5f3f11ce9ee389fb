-- Which faults a policy's text has, and where (docs/POLICY.md, "Objects" and "Faults"). Nothing here says which comes first.
use Rattle.std.specs.Prelude.{◌||◌, ◌∷◌, ◌++◌, ℕ, negsuc, zero, suc, Bool, true, not, List, [], codes, if◌then◌else◌, Option, Some, None, is_some}
use Rattle.std.specs.Ordering.{int_eq}
use Rattle.std.specs.Str.{bytes_eq}
use Rattle.serde_json.specs.Data.{Data, Num, unsigned, negative, float}
use Rattle.serde_json.specs.Find.{as_bool, as_number, as_str, as_object}
use Rattle.policy_permissions.specs.declared.entry.Side.{Side}
use Rattle.policy_permissions.specs.declared.entry.Side.TheVariants.{Publish, Subscribe}
use Rattle.policy_walk.specs.declared.fault.ConfigFault.{ConfigFault}
use Rattle.policy_walk.specs.declared.fault.ConfigFault.TheVariants.{WrongType, BadSubject, BadDuration, BadMax, BadName, HashedPassword}
use Rattle.policy_walk.specs.Durations.{duration_of}
use Rattle.subjects.specs.Fault.{subject_fault}
use Rattle.policy_doc.specs.declared.exports.document.Kind.{Kind}
use Rattle.policy_doc.specs.declared.exports.document.Kind.TheVariants.{Stream, Service}
use Rattle.policy_doc.specs.declared.document.Version.{Version}
use Rattle.policy_permissions.specs.Entry.{is_entry_text, is_pattern_text}
use Rattle.policy_text.specs.rows.Names.{kind_of}
use Rattle.policy_walk.specs.Path.{Path}
use Rattle.policy_text.specs.account_config.Place.{itself, unknown, missing, under, named, Faults}
use Rattle.policy_text.specs.account_config.Tables.{Key, required, optional, spelled, object_faults, text_faults, list_faults, members_faults}
use Rattle.policy_text.specs.account_config.Mapped.{mappings_faults}
use Rattle.policy_text.specs.account_config.Policy.{is_bound, has_name_length, is_account_name, is_hashed, since_second, version_in, version_of}

-- ---- what a policy has, from the inside out

abbrev pub entry_faults : Side → Path → Data → Faults
entry_faults side = text_faults (is_entry_text side) BadSubject

-- one entry, or a list of them
abbrev pub entries_faults : Side → Path → Data → Faults
entries_faults side path d = if is_some (as_str d) then entry_faults side path d else list_faults (entry_faults side) path d

abbrev pub direction_keys : Side → List Key
direction_keys side = optional (codes "allow") (entries_faults side) ∷ optional (codes "deny") (entries_faults side) ∷ []

-- an object, or entries to be allowed
abbrev pub direction_faults : Side → Path → Data → Faults
direction_faults side path d = if is_some (as_object d) then object_faults (direction_keys side) path d else entries_faults side path d

-- a number is a bound on responses, or -1
abbrev pub max_fault : Path → Option Num → Option ConfigFault
max_fault path (Some (unsigned n)) = if is_bound n then None else Some (BadMax path)
max_fault path (Some (negative z)) = if int_eq z (negsuc 0) then None else Some (BadMax path)
max_fault path (Some (float x)) = Some (WrongType path)
max_fault path None = Some (WrongType path)

abbrev pub max_faults : Path → Data → Faults
max_faults path d itself = max_fault path (as_number d)
max_faults path d _ = None

abbrev pub duration_faults : Path → Data → Faults
duration_faults = text_faults (λ text. is_some (duration_of text)) BadDuration

abbrev pub terms_keys : List Key
terms_keys = optional (codes "max") max_faults ∷ optional (codes "expires") duration_faults ∷ []

abbrev pub no_faults : Faults
no_faults p = None

-- true, false or an object
abbrev pub responses_faults : Path → Data → Faults
responses_faults path d = if is_some (as_bool d) then no_faults else object_faults terms_keys path d

abbrev pub permission_keys : List Key
permission_keys =
    spelled (codes "publish") (codes "pub") (direction_faults Publish)
    ∷ spelled (codes "subscribe") (codes "sub") (direction_faults Subscribe)
    ∷ optional (codes "allow_responses") responses_faults ∷ []

abbrev pub user_keys : List Key
user_keys =
    required (codes "user") (text_faults has_name_length BadName)
    ∷ required (codes "password") (text_faults (λ password. not (is_hashed password)) HashedPassword)
    ∷ optional (codes "permissions") (object_faults permission_keys) ∷ []

-- ---- exports and imports

abbrev pub name_faults : Path → Data → Faults
name_faults = text_faults is_account_name BadName

abbrev pub pattern_faults : Path → Data → Faults
pattern_faults = text_faults is_pattern_text BadSubject

abbrev pub any_text_faults : Path → Data → Faults
any_text_faults = text_faults (λ text. true) WrongType

-- a subject without wildcards
abbrev pub is_subject_text : List ℕ → Bool
is_subject_text text = not (is_some (subject_fault text))

-- one response, or a stream of them
abbrev pub is_response_type : List ℕ → Bool
is_response_type text = bytes_eq text (codes "single") || bytes_eq text (codes "stream")

-- A row has just one of the keys `stream` and `service`, and the table of that kind. A row that is of no kind has no known
-- key that isn't there, so what it is at fault for stands in that place: it is itself of the wrong kind. Its unknown keys
-- are those that no kind of row has.
abbrev pub kindless_faults : List Key → Path → Data → Faults
kindless_faults keys path d itself = object_faults keys path d itself
kindless_faults keys path d (unknown key) = object_faults keys path d (unknown key)
kindless_faults keys path d (missing zero) = Some (WrongType path)
kindless_faults keys path d (missing (suc i)) = None
kindless_faults keys path d (under i p) = None
kindless_faults keys path d (named key p) = None

abbrev pub row_faults : List Key → List Key → Option Kind → Path → Data → Faults
row_faults stream_keys service_keys (Some Stream) path d = object_faults stream_keys path d
row_faults stream_keys service_keys (Some Service) path d = object_faults service_keys path d
row_faults stream_keys service_keys None path d = kindless_faults (stream_keys ++ service_keys) path d

abbrev pub stream_export_keys : List Key
stream_export_keys = required (codes "stream") pattern_faults ∷ optional (codes "accounts") (list_faults name_faults) ∷ []

abbrev pub service_export_keys : List Key
service_export_keys =
    required (codes "service") pattern_faults
    ∷ optional (codes "accounts") (list_faults name_faults)
    ∷ optional (codes "response_type") (text_faults is_response_type WrongType)
    ∷ optional (codes "response_ttl") duration_faults ∷ []

abbrev pub export_faults : Path → Data → Faults
export_faults path d = row_faults stream_export_keys service_export_keys (kind_of d) path d

-- an account, and a pattern of its subjects
abbrev pub source_keys : List Key
source_keys = required (codes "account") name_faults ∷ required (codes "subject") pattern_faults ∷ []

abbrev pub stream_import_keys : List Key
stream_import_keys =
    required (codes "stream") (object_faults source_keys)
    ∷ optional (codes "to") any_text_faults
    ∷ optional (codes "prefix") (text_faults is_subject_text BadSubject) ∷ []

abbrev pub service_import_keys : List Key
service_import_keys = required (codes "service") (object_faults source_keys) ∷ optional (codes "to") any_text_faults ∷ []

abbrev pub import_faults : Path → Data → Faults
import_faults path d = row_faults stream_import_keys service_import_keys (kind_of d) path d

-- ---- accounts

abbrev pub account_keys : Version → List Key
account_keys version =
    optional (codes "users") (list_faults (object_faults user_keys))
    ∷ optional (codes "exports") (list_faults export_faults)
    ∷ optional (codes "imports") (list_faults import_faults)
    ∷ since_second version (optional (codes "mappings") mappings_faults)

-- an account's name, and then the account
abbrev pub account_faults : Version → List ℕ → Path → Data → Faults
account_faults version name path d itself = if is_account_name name then None else Some (BadName path)
account_faults version name path d (under zero p) = object_faults (account_keys version) path d p
account_faults version name path d _ = None

-- an object with an account under each name
abbrev pub accounts_faults : Version → Path → Data → Faults
accounts_faults version = members_faults (account_faults version)

abbrev pub version_faults : Path → Data → Faults
version_faults path d itself = if is_some (version_of d) then None else Some (WrongType path)
version_faults path d _ = None

abbrev pub top_keys : Version → List Key
top_keys version =
    required (codes "accounts") (accounts_faults version)
    ∷ optional (codes "version") version_faults
    ∷ since_second version (optional (codes "default_permissions") (object_faults permission_keys))

-- the whole has no path, and the keys of its version
abbrev pub policy_faults : Data → Faults
policy_faults d = object_faults (top_keys (version_in d)) [] d

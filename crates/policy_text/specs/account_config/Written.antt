-- The document that a JSON value without a fault writes (docs/POLICY.md, "Objects").
use Rattle.std.specs.Prelude.{◌≡◌, ◌≢◌, ◌∷◌, ℕ, Bool, true, false, List, [], codes, length, if◌then◌else◌, nat_lt, Option, Some, None, Ok, Err, is_some, option_and_then}
use Rattle.std.specs.Option.{option_map, option_or, unwrap_or}
use Rattle.std.specs.Str.{bytes_eq}
use Rattle.serde_json.specs.Data.{Data, Members, no_members, member}
use Rattle.serde_json.specs.Find.{get, as_bool, as_number, as_u64, as_str, as_object}
use Rattle.subjects.specs.Subject.{Token, tokens_of}
use Rattle.policy_doc.specs.declared.exports.document.Kind.{Kind}
use Rattle.policy_doc.specs.declared.exports.document.Kind.TheVariants.{Stream, Service}
use Rattle.policy_doc.specs.declared.exports.document.ExportDoc.{ExportDoc}
use Rattle.policy_doc.specs.declared.exports.document.ResponseTerms.{ResponseTerms}
use Rattle.policy_text.specs.rows.Names.{kind_of}
use Rattle.policy_text.specs.rows.Exports.{usual_response}
use Rattle.policy_doc.specs.Accounts.{with_account}
use Rattle.policy_doc.specs.declared.document.PolicyDoc.{PolicyDoc}
use Rattle.policy_doc.specs.declared.document.NamedAccount.{NamedAccount}
use Rattle.policy_doc.specs.declared.document.AccountDoc.{AccountDoc}
use Rattle.policy_doc.specs.declared.document.ImportDoc.{ImportDoc}
use Rattle.policy_doc.specs.declared.document.UserDoc.{UserDoc}
use Rattle.policy_doc.specs.declared.permission_doc.document.PermDoc.{PermDoc}
use Rattle.policy_doc.specs.declared.permission_doc.document.Direction.{Direction}
use Rattle.policy_doc.specs.declared.permission_doc.document.PermEntry.{PermEntry}
use Rattle.policy_walk.specs.Durations.{duration_of}
use Rattle.policy_doc.specs.declared.permission_doc.document.Terms.{Terms}
use Rattle.policy_walk.specs.declared.fault.ConfigFault.TheVariants.{TooLarge, NotJson, NoMemory}
use Rattle.policy_permissions.specs.declared.entry.Side.{Side}
use Rattle.policy_permissions.specs.declared.entry.Side.TheVariants.{Publish, Subscribe}
use Rattle.policy_permissions.specs.Entry.{entry_written}
use Rattle.policy_walk.specs.Fault.{Read}
use Rattle.policy_text.specs.account_config.Place.{IsReading}
use Rattle.policy_text.specs.account_config.Standing.{policy_faults}
use Rattle.policy_text.specs.account_config.Policy.{or_empty, version_in}
use Rattle.policy_text.specs.account_config.Values.{text_in, list_in, value_under}
use Rattle.policy_text.specs.account_config.Mapped.{mappings_in}
use Rattle.json_text.specs.Json.{json_of}

abbrev pub entry_in : Side → Data → PermEntry
entry_in side d = entry_written side (text_in d)

abbrev pub entries_in : Side → Data → List PermEntry
entries_in side d = if is_some (as_str d) then entry_in side d ∷ [] else list_in (entry_in side) d

-- an object has an allow and a deny list, each if it is there; anything else is an allow list
abbrev pub lists_in : Side → Data → Direction
lists_in side d =
    if is_some (as_object d)
    then record { allow = option_map (entries_in side) (get (codes "allow") d); deny = or_empty (option_map (entries_in side) (get (codes "deny") d)) }
    else record { allow = Some (entries_in side d); deny = [] }

abbrev pub direction_in : Side → Option Data → Direction
direction_in side None = record { allow = None; deny = [] }
direction_in side (Some d) = lists_in side d

-- a number below 0 is no bound
abbrev pub bound_in : Data → Option ℕ
bound_in d = option_and_then as_u64 (as_number d)

-- without a bound that is given, one response may pass
abbrev pub max_in : Option Data → Option ℕ
max_in None = Some 1
max_in (Some d) = bound_in d

abbrev pub duration_in : Data → ℕ
duration_in d = unwrap_or (duration_of (text_in d)) 0

abbrev pub terms_in : Data → Terms
terms_in d = record { max = max_in (get (codes "max") d); expires = option_map duration_in (get (codes "expires") d) }

-- true is one response at any time, and false none
abbrev pub responses_by : Data → Option Bool → Option Terms
responses_by d (Some true) = Some record { max = Some 1; expires = None }
responses_by d (Some false) = None
responses_by d None = Some (terms_in d)

abbrev pub responses_in : Data → Option Terms
responses_in d = responses_by d (as_bool d)

abbrev pub permissions_in : Data → PermDoc
permissions_in d = record {
  publish = direction_in Publish (option_or (get (codes "publish") d) (get (codes "pub") d));
  subscribe = direction_in Subscribe (option_or (get (codes "subscribe") d) (get (codes "sub") d));
  allow_responses = option_and_then responses_in (get (codes "allow_responses") d);
}

abbrev pub user_in : Data → UserDoc
user_in d = record {
  user = text_in (value_under (codes "user") d);
  password = text_in (value_under (codes "password") d);
  permissions = option_map permissions_in (get (codes "permissions") d);
}

-- the pattern of a text under a key that has to be there
abbrev pub pattern_under : List ℕ → Data → List Token
pattern_under key d = tokens_of (text_in (value_under key d))

-- without a list an export is public
abbrev pub accounts_list_in : Data → Option (List (List ℕ))
accounts_list_in d = option_map (list_in text_in) (get (codes "accounts") d)

-- there is one response, unless a stream of them is written
abbrev pub single_in : Option Data → Bool
single_in None = true
single_in (Some d) = bytes_eq (text_in d) (codes "single")

-- two minutes, where no other time is written
abbrev pub ttl_in : Option Data → ℕ
ttl_in None = 120000
ttl_in (Some d) = duration_in d

abbrev pub response_in : Data → ResponseTerms
response_in d = record { ttl = ttl_in (get (codes "response_ttl") d); single = single_in (get (codes "response_type") d) }

abbrev pub stream_export_in : Data → ExportDoc
stream_export_in d = record { kind = Stream; subject = pattern_under (codes "stream") d; accounts = accounts_list_in d; response = usual_response }

abbrev pub service_export_in : Data → ExportDoc
service_export_in d = record { kind = Service; subject = pattern_under (codes "service") d; accounts = accounts_list_in d; response = response_in d }

-- a row by its kind; a row that is of no kind has a fault
abbrev pub row_in : {X : Type 0} → (Data → X) → (Data → X) → Option Kind → Data → X
row_in stream service (Some Stream) d = stream d
row_in stream service (Some Service) d = service d
row_in stream service None d = stream d

abbrev pub export_in : Data → ExportDoc
export_in d = row_in stream_export_in service_export_in (kind_of d) d

abbrev pub stream_import_in : Data → ImportDoc
stream_import_in d = record {
  kind = Stream;
  account = text_in (value_under (codes "account") (value_under (codes "stream") d));
  subject = pattern_under (codes "subject") (value_under (codes "stream") d);
  to = option_map text_in (get (codes "to") d);
  prefix = option_map (λ p. tokens_of (text_in p)) (get (codes "prefix") d);
}

abbrev pub service_import_in : Data → ImportDoc
service_import_in d = record {
  kind = Service;
  account = text_in (value_under (codes "account") (value_under (codes "service") d));
  subject = pattern_under (codes "subject") (value_under (codes "service") d);
  to = option_map text_in (get (codes "to") d);
  prefix = None;
}

abbrev pub import_in : Data → ImportDoc
import_in d = row_in stream_import_in service_import_in (kind_of d) d

abbrev pub account_in : Data → AccountDoc
account_in d = record {
  users = or_empty (option_map (list_in user_in) (get (codes "users") d));
  exports = or_empty (option_map (list_in export_in) (get (codes "exports") d));
  imports = or_empty (option_map (list_in import_in) (get (codes "imports") d));
  mappings = or_empty (option_map mappings_in (get (codes "mappings") d));
}

-- accounts, each put under its name
abbrev pub accounts_in : List NamedAccount → Members → List NamedAccount
accounts_in before no_members = before
accounts_in before (member name d ms) = accounts_in (with_account name (account_in d) before) ms

abbrev pub document_in : Data → PolicyDoc
document_in d = record {
  accounts = accounts_in [] (unwrap_or (as_object (value_under (codes "accounts") d)) no_members);
  version = version_in d;
  default_permissions = option_map permissions_in (get (codes "default_permissions") d);
}

-- the answer to a text: whether it is too large, and the JSON value that it has
abbrev pub IsAnswerBy : Bool → Option Data → Read PolicyDoc → Type 0
IsAnswerBy true value read = read ≡ Err TooLarge
IsAnswerBy false None read = read ≡ Err NotJson
IsAnswerBy false (Some d) read = IsReading (policy_faults d) (document_in d) read

-- The document of a text without a fault, or its first fault: that it is too large, that it is no JSON, or the first
-- that stands in its value.
abbrev pub IsAnswer : List ℕ → Read PolicyDoc → Type 0
IsAnswer text read = IsAnswerBy (nat_lt 1048576 (length text)) (json_of text) read

-- what is answered to a text, want of memory apart
abbrev pub IsAnsweredFor : List ℕ → Read PolicyDoc → Type 0
IsAnsweredFor text (Ok doc) = IsAnswer text (Ok doc)
IsAnsweredFor text (Err fault) = fault ≢ NoMemory → IsAnswer text (Err fault)

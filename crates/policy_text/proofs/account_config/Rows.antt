-- What exports and imports have alike.
use Rattle.std.proofs.Common.{◌≡◌, ◌++◌, ℕ, suc, Bool, true, false, not, if◌then◌else◌, List, Option, Some, None, Ok, Err, is_some, refl, subst}
use Rattle.std.specs.Option.{ok_or}
use Rattle.serde_json.specs.Data.{Data}
use Rattle.serde_json.specs.Find.{get}
use Rattle.subjects.specs.Subject.{tokens_of}
use Rattle.subjects.specs.Fault.{pattern_fault}
use Rattle.policy_doc.specs.declared.exports.document.Kind.{Kind}
use Rattle.policy_doc.specs.declared.exports.document.Kind.TheVariants.{Stream, Service}
use Rattle.policy_permissions.specs.Entry.{is_pattern_text}
use Rattle.policy_permissions.specs.Permissions.{pattern_from}
use Rattle.policy_walk.specs.declared.fault.ConfigFault.{ConfigFault}
use Rattle.policy_walk.specs.declared.fault.ConfigFault.TheVariants.{WrongType, BadSubject, BadName}
use Rattle.policy_walk.specs.Fault.{Read, ◌>>=◌}
use Rattle.policy_walk.specs.Path.{Path, at_key}
use Rattle.policy_walk.specs.Object.{Row, is_known, missing_key}
use Rattle.policy_walk.specs.Texts.{required_text_at}
use Rattle.policy_text.specs.rows.Names.{account_name_at, account_name_from, is_account_name, kind_of, pattern_at, row_at, row_by}
use Rattle.policy_text.specs.account_config.Place.{under, Faults, IsReading}
use Rattle.policy_text.specs.account_config.Tables.{Key, has_key, unless_found, in_value, object_faults}
use Rattle.policy_text.specs.account_config.Standing.{row_faults, name_faults, pattern_faults}
use Rattle.policy_text.specs.account_config.Values.{text_in, value_under}
use Rattle.policy_text.specs.account_config.Written.{pattern_under, row_in}
use Rattle.policy_text.proofs.account_config.First.{IsClear, go_on}
use Rattle.policy_text.proofs.account_config.Objects.{kindless_read}
use Rattle.policy_text.proofs.account_config.Each.{Reads}
use Rattle.policy_text.proofs.account_config.Values.{text_read, required_read}

assoc : {A B C : Type 0} (read : Read A) (f : A → Read B) (g : B → Read C) → (read >>= λ x. (f x >>= g)) ≡ ((read >>= f) >>= g)
assoc (Ok x) f g = refl
assoc (Err fault) f g = refl

-- reading goes on behind a key that has no fault, within what is read of several keys together
pub go_into : {A B C : Type 0} (F : Faults) (n : ℕ) (x : A) (y : C) (read : Read A) (f : A → Read B) (g : B → Read C) →
    IsClear F n → IsReading (λ p. F (under n p)) x read → (IsClear F (suc n) → IsReading F y (f x >>= g)) → IsReading F y ((read >>= f) >>= g)
go_into F n x y read f g clear is rest = subst (IsReading F y) (assoc read f g) (go_on F n x y read (λ a. f a >>= g) clear is rest)

pub name_read : Reads name_faults text_in account_name_at
unfolding account_name_at
name_read path d up = text_read is_account_name BadName (λ text. text) path (account_name_from path) (λ text. refl) d

-- a text that has no fault is its tokens
parsed_is : (text : List ℕ) (faulty : Bool) (fault : ConfigFault) →
    ok_or (if faulty then None else Some (tokens_of text)) fault ≡ (if not faulty then Ok (tokens_of text) else Err fault)
parsed_is text true fault = refl
parsed_is text false fault = refl

-- a pattern under a key that has to be there
pub pattern_read : (key : List ℕ) (path : Path) (d : Data) → unless_found (get key d) (WrongType (at_key path key)) ≡ None →
    IsReading (in_value pattern_faults (at_key path key) (get key d)) (pattern_under key d) (pattern_at key path d)
unfolding pattern_at required_text_at
pattern_read key path d there =
    required_read is_pattern_text BadSubject tokens_of (at_key path key) (pattern_from (at_key path key)) (λ text. parsed_is text (is_some (pattern_fault text)) _) (get key d) there

-- an account's name under a key that has to be there
pub name_under_read : (key : List ℕ) (path : Path) (d : Data) → unless_found (get key d) (WrongType (at_key path key)) ≡ None →
    IsReading (in_value name_faults (at_key path key) (get key d)) (text_in (value_under key d)) (required_text_at key path d >>= λ text. account_name_from (at_key path key) text)
unfolding required_text_at
name_under_read key path d there = required_read is_account_name BadName (λ text. text) (at_key path key) (account_name_from (at_key path key)) (λ text. refl) (get key d) there

-- a row is read as its kind says, and one of neither kind is refused
pub row_read : {X : Type 0} (stream_keys service_keys : List Key) (stream service : Data → X) (stream_at service_at : Path → Data → Read X) (rows : List Row) →
    Reads (object_faults stream_keys) stream stream_at → Reads (object_faults service_keys) service service_at →
    ((key : List ℕ) → is_known rows key ≡ has_key (stream_keys ++ service_keys) key) → ((d : Data) → missing_key rows d ≡ None) →
    Reads (λ path d. row_faults stream_keys service_keys (kind_of d) path d) (λ d. row_in stream service (kind_of d) d) (row_at stream_at service_at rows)
row_read stream_keys service_keys stream service stream_at service_at rows is_stream is_service same none path d up = by (kind_of d)
  where
    by : (kind : Option Kind) → IsReading (row_faults stream_keys service_keys kind path d) (row_in stream service kind d) (row_by stream_at service_at rows path d kind)
    by (Some Stream) = is_stream path d up
    by (Some Service) = is_service path d up
    by None = kindless_read rows (stream_keys ++ service_keys) path d (stream d) up same (none d)

-- The imports of an account are read as their faults and what is written say.
use Rattle.std.proofs.Common.{◌≡◌, List, ℕ, Option, Some, None, option_map, Ok, Err, Bool, true, false, not, ◌||◌, codes, if◌then◌else◌, is_some, bytes_eq, refl}
use Rattle.std.specs.Option.{ok_or}
use Rattle.serde_json.specs.Data.{Data}
use Rattle.serde_json.specs.Find.{get}
use Rattle.subjects.specs.Subject.{tokens_of}
use Rattle.subjects.specs.Fault.{subject_fault}
use Rattle.policy_walk.specs.declared.fault.ConfigFault.TheVariants.{WrongType, BadSubject}
use Rattle.policy_walk.specs.Fault.{◌>>=◌}
use Rattle.policy_walk.specs.Path.{Path, at_key}
use Rattle.policy_text.specs.rows.Names.{pattern_at}
use Rattle.policy_text.specs.rows.Imports.{account_at, either_rows, import_at, prefix_under, service_at, source_at, source_in, source_of, stream_at, subject_from, to_under}
use Rattle.policy_text.specs.account_config.Place.{IsReading}
use Rattle.policy_text.specs.account_config.Tables.{unless_found, in_value, object_faults, text_faults}
use Rattle.policy_text.specs.account_config.Standing.{any_text_faults, is_subject_text, source_keys, stream_import_keys, service_import_keys, import_faults}
use Rattle.policy_text.specs.account_config.Values.{text_in, value_under}
use Rattle.policy_text.specs.account_config.Written.{pattern_under, stream_import_in, service_import_in, import_in}
use Rattle.policy_text.proofs.account_config.Order.{IsOrdered, under-ordered}
use Rattle.policy_text.proofs.account_config.First.{go_on}
use Rattle.policy_text.proofs.account_config.Objects.{then_object, none_left}
use Rattle.policy_text.proofs.account_config.Each.{Reads}
use Rattle.policy_text.proofs.account_config.Values.{text_read, required_value_read}
use Rattle.policy_text.proofs.account_config.Rows.{pattern_read, name_under_read, row_read}

-- ---- what is imported, and under which names

source_read : Reads (object_faults source_keys) (λ d. source_of (text_in (value_under (codes "account") d)) (pattern_under (codes "subject") d)) source_at
unfolding source_at account_at
source_read path d up =
    then_object source_keys path d _ _ up λ clear.
    go_on _ 0 (text_in (value_under (codes "account") d)) _ (account_at path d) _ clear (name_under_read (codes "account") path d (clear.at_missing 0)) λ clear.
    go_on _ 1 (pattern_under (codes "subject") d) _ (pattern_at (codes "subject") path d) _ clear (pattern_read (codes "subject") path d (clear.at_missing 1)) λ clear.
    (none_left source_keys path d clear, refl)

source_under_read : (key : List ℕ) (path : Path) (d : Data) → IsOrdered d → unless_found (get key d) (WrongType (at_key path key)) ≡ None →
    IsReading (in_value (object_faults source_keys) (at_key path key) (get key d))
    (source_of (text_in (value_under (codes "account") (value_under key d))) (pattern_under (codes "subject") (value_under key d))) (source_in key path d)
unfolding source_in
source_under_read key path d up there = required_value_read (object_faults source_keys) _ source_at source_read (at_key path key) (get key d) (under-ordered key d up) there

to_under_read : (path : Path) (found : Option Data) → IsReading (in_value any_text_faults path found) (option_map text_in found) (to_under path found)
to_under_read path None = (λ p. refl, refl)
to_under_read path (Some d) = text_read (λ text. true) WrongType (λ text. Some text) path (λ text. Ok (Some text)) (λ text. refl) d

prefix_is : (path : Path) (text : List ℕ) (faulty : Bool) →
    (ok_or (if faulty then None else Some (tokens_of text)) (BadSubject path) >>= λ prefix. Ok (Some prefix)) ≡ (if not faulty then Ok (Some (tokens_of text)) else Err (BadSubject path))
prefix_is path text true = refl
prefix_is path text false = refl

prefix_under_read : (path : Path) (found : Option Data) →
    IsReading (in_value (text_faults is_subject_text BadSubject) path found) (option_map (λ p. tokens_of (text_in p)) found) (prefix_under path found)
prefix_under_read path None = (λ p. refl, refl)
prefix_under_read path (Some d) =
    text_read is_subject_text BadSubject (λ text. Some (tokens_of text)) path (λ text. subject_from path text >>= λ prefix. Ok (Some prefix))
    (λ text. prefix_is path text (is_some (subject_fault text))) d

-- ---- rows

stream_read : Reads (object_faults stream_import_keys) stream_import_in stream_at
unfolding stream_at
stream_read path d up =
    then_object stream_import_keys path d (stream_import_in d) _ up λ clear.
    go_on _ 0 _ (stream_import_in d) (source_in (codes "stream") path d) _ clear (source_under_read (codes "stream") path d up (clear.at_missing 0)) λ clear.
    go_on _ 1 (option_map text_in (get (codes "to") d)) (stream_import_in d) (to_under (at_key path (codes "to")) (get (codes "to") d)) _ clear (to_under_read _ _) λ clear.
    go_on _ 2 (option_map (λ p. tokens_of (text_in p)) (get (codes "prefix") d)) (stream_import_in d) (prefix_under (at_key path (codes "prefix")) (get (codes "prefix") d)) _ clear
    (prefix_under_read (at_key path (codes "prefix")) (get (codes "prefix") d)) λ clear.
    (none_left stream_import_keys path d clear, refl)

service_read : Reads (object_faults service_import_keys) service_import_in service_at
unfolding service_at
service_read path d up =
    then_object service_import_keys path d (service_import_in d) _ up λ clear.
    go_on _ 0 _ (service_import_in d) (source_in (codes "service") path d) _ clear (source_under_read (codes "service") path d up (clear.at_missing 0)) λ clear.
    go_on _ 1 (option_map text_in (get (codes "to") d)) (service_import_in d) (to_under (at_key path (codes "to")) (get (codes "to") d)) _ clear (to_under_read _ _) λ clear.
    (none_left service_import_keys path d clear, refl)

-- the keys of both kinds are those of one kind, and then those of the other
both_kinds : (stream service to prefix : Bool) → (stream || (service || (to || (prefix || false)))) ≡ (stream || (to || (prefix || (service || (to || false)))))
both_kinds true service to prefix = refl
both_kinds false true true prefix = refl
both_kinds false true false true = refl
both_kinds false true false false = refl
both_kinds false false true prefix = refl
both_kinds false false false true = refl
both_kinds false false false false = refl

pub import_read : Reads import_faults import_in import_at
import_read =
    row_read stream_import_keys service_import_keys stream_import_in service_import_in stream_at service_at either_rows stream_read service_read
    (λ key. both_kinds (bytes_eq (codes "stream") key) (bytes_eq (codes "service") key) (bytes_eq (codes "to") key) (bytes_eq (codes "prefix") key)) (λ d. refl)

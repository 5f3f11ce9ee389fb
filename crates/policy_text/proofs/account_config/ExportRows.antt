-- The exports of an account are read as their faults and what is written say.
use Rattle.std.proofs.Common.{◌≡◌, Option, Some, None, option_map, Ok, Err, Bool, true, false, ◌||◌, codes, if◌then◌else◌, bytes_eq, refl}
use Rattle.serde_json.specs.Data.{Data}
use Rattle.serde_json.specs.Find.{get}
use Rattle.policy_walk.specs.declared.fault.ConfigFault.{ConfigFault}
use Rattle.policy_walk.specs.declared.fault.ConfigFault.TheVariants.{WrongType}
use Rattle.policy_walk.specs.Path.{Path, at_key}
use Rattle.policy_walk.specs.Lists.{list_at}
use Rattle.policy_text.specs.rows.Names.{account_name_at, pattern_at}
use Rattle.policy_text.specs.rows.Exports.{accounts_under, either_rows, export_at, response_at, service_at, single_at, single_from, single_under, stream_at, ttl_under}
use Rattle.policy_text.specs.account_config.Place.{IsReading}
use Rattle.policy_text.specs.account_config.Tables.{in_value, object_faults, text_faults, list_faults}
use Rattle.policy_text.specs.account_config.Standing.{duration_faults, name_faults, is_response_type, stream_export_keys, service_export_keys, export_faults}
use Rattle.policy_text.specs.account_config.Values.{text_in, list_in}
use Rattle.policy_text.specs.account_config.Written.{pattern_under, accounts_list_in, single_in, ttl_in, stream_export_in, service_export_in, export_in}
use Rattle.policy_text.proofs.account_config.Order.{IsOrdered, Meets, under-ordered}
use Rattle.policy_text.proofs.account_config.First.{go_on}
use Rattle.policy_text.proofs.account_config.Objects.{then_object, none_left}
use Rattle.policy_text.proofs.account_config.Each.{Reads}
use Rattle.policy_text.proofs.account_config.Values.{text_read, list_read, optional_read, duration_read}
use Rattle.policy_text.proofs.account_config.Rows.{go_into, name_read, pattern_read, row_read}

accounts_under_read : (path : Path) (found : Option Data) → Meets IsOrdered found → IsReading (in_value (list_faults name_faults) path found) (option_map (list_in text_in) found) (accounts_under path found)
accounts_under_read path None up = (λ p. refl, refl)
accounts_under_read path (Some d) up =
    optional_read (list_faults name_faults) (list_in text_in) (list_at account_name_at) (list_read name_faults text_in account_name_at name_read) path d up

single_is : (single stream : Bool) (fault : ConfigFault) → (if single then Ok true else (if stream then Ok false else Err fault)) ≡ (if single || stream then Ok single else Err fault)
single_is true stream fault = refl
single_is false true fault = refl
single_is false false fault = refl

single_under_read : (path : Path) (found : Option Data) → IsReading (in_value (text_faults is_response_type WrongType) path found) (single_in found) (single_under path found)
unfolding single_at
single_under_read path None = (λ p. refl, refl)
single_under_read path (Some d) =
    text_read is_response_type WrongType (λ text. bytes_eq text (codes "single")) path (single_from path)
    (λ text. single_is (bytes_eq text (codes "single")) (bytes_eq text (codes "stream")) (WrongType path)) d

ttl_under_read : (path : Path) (found : Option Data) → Meets IsOrdered found → IsReading (in_value duration_faults path found) (ttl_in found) (ttl_under path found)
ttl_under_read path None up = (λ p. refl, refl)
ttl_under_read path (Some d) up = duration_read path d up

stream_read : Reads (object_faults stream_export_keys) stream_export_in stream_at
unfolding stream_at
stream_read path d up =
    then_object stream_export_keys path d (stream_export_in d) _ up λ clear.
    go_on _ 0 (pattern_under (codes "stream") d) (stream_export_in d) (pattern_at (codes "stream") path d) _ clear (pattern_read (codes "stream") path d (clear.at_missing 0)) λ clear.
    go_on _ 1 (accounts_list_in d) (stream_export_in d) (accounts_under (at_key path (codes "accounts")) (get (codes "accounts") d)) _ clear
    (accounts_under_read _ _ (under-ordered (codes "accounts") d up)) λ clear.
    (none_left stream_export_keys path d clear, refl)

service_read : Reads (object_faults service_export_keys) service_export_in service_at
unfolding service_at response_at
service_read path d up =
    then_object service_export_keys path d (service_export_in d) _ up λ clear.
    go_on _ 0 (pattern_under (codes "service") d) (service_export_in d) (pattern_at (codes "service") path d) _ clear (pattern_read (codes "service") path d (clear.at_missing 0)) λ clear.
    go_on _ 1 (accounts_list_in d) (service_export_in d) (accounts_under (at_key path (codes "accounts")) (get (codes "accounts") d)) _ clear
    (accounts_under_read _ _ (under-ordered (codes "accounts") d up)) λ clear.
    go_into _ 2 (single_in (get (codes "response_type") d)) (service_export_in d) (single_under (at_key path (codes "response_type")) (get (codes "response_type") d)) _ _ clear
    (single_under_read _ _) λ clear.
    go_into _ 3 (ttl_in (get (codes "response_ttl") d)) (service_export_in d) (ttl_under (at_key path (codes "response_ttl")) (get (codes "response_ttl") d)) _ _ clear
    (ttl_under_read _ _ (under-ordered (codes "response_ttl") d up)) λ clear.
    (none_left service_export_keys path d clear, refl)

-- the keys of both kinds are those of one kind, and then those of the other
both_kinds : (stream service accounts more : Bool) → (stream || (service || (accounts || more))) ≡ (stream || (accounts || (service || (accounts || more))))
both_kinds true service accounts more = refl
both_kinds false true true more = refl
both_kinds false true false more = refl
both_kinds false false true more = refl
both_kinds false false false more = refl

pub export_read : Reads export_faults export_in export_at
export_read =
    row_read stream_export_keys service_export_keys stream_export_in service_export_in stream_at service_at either_rows stream_read service_read
    (λ key. both_kinds (bytes_eq (codes "stream") key) (bytes_eq (codes "service") key) (bytes_eq (codes "accounts") key) _) (λ d. refl)

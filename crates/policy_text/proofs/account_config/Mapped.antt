-- The mappings of an account are read as their faults and what is written say.
use Rattle.std.proofs.Common.{◌≡◌, ℕ, zero, suc, ◌≤◌, List, [], ◌∷◌, Option, Some, None, option_map, option_and_then, Ok, Err, Bool, true, false, not, codes, if◌then◌else◌, nat_lt, is_some, refl, arith}
use Rattle.std.specs.List.{sum_by}
use Rattle.std.specs.Option.{ok_or, unwrap_or}
use Rattle.serde_json.specs.Data.{Data, null, boolean, number, string, array, object, Members, no_members, member}
use Rattle.serde_json.specs.Find.{get, as_u64}
use Rattle.subjects.specs.Subject.{Token, tokens_of}
use Rattle.subjects.specs.Fault.{pattern_fault}
use Rattle.mapping.specs.one_way.Fault.{one_way_fault}
use Rattle.account_mappings.specs.weights.Weights.{weight_of, weight_written}
use Rattle.account_mappings.specs.Drawing.{map_of, share_of, weight_of as share_weight}
use Rattle.policy_walk.specs.declared.fault.ConfigFault.{ConfigFault}
use Rattle.policy_walk.specs.declared.fault.ConfigFault.TheVariants.{BadSubject, BadDestination, BadWeight}
use Rattle.policy_walk.specs.Fault.{◌>>=◌}
use Rattle.policy_walk.specs.Path.{Path, at_key}
use Rattle.policy_walk.specs.Lists.{list_at}
use Rattle.policy_walk.specs.Texts.{required_text_at}
use Rattle.policy_text.specs.mappings.Mappings.{map_at, map_from, mappings_at, mappings_under, maps_from, object_shares, share_at, shares_at, template_at, template_from, text_shares, weight_at as weight_read_at, weight_under}
use Rattle.policy_text.specs.account_config.Policy.{or_empty}
use Rattle.policy_text.specs.account_config.Place.{Place, itself, unknown, missing, under, named, Faults, IsReading}
use Rattle.policy_text.specs.account_config.Tables.{in_value, object_faults}
use Rattle.policy_text.specs.account_config.Values.{text_in, value_under}
use Rattle.policy_text.specs.account_config.Mapped.{destination_keys, destinations_faults, is_template, map_in, mappings_faults, mappings_in, maps_in, share_in, shares_in, source_faults, weight_at, weight_faults, weight_in}
use Rattle.policy_text.proofs.account_config.Order.{IsAscending, IsOrdered, Meets, under-ordered}
use Rattle.policy_text.proofs.account_config.First.{IsClear, first_itself, first_under, go_on, mapped, next, whole}
use Rattle.policy_text.proofs.account_config.Objects.{then_object, none_left}
use Rattle.policy_text.proofs.account_config.Each.{Reads, in_members, member_read, members_read, none_in}
use Rattle.policy_text.proofs.account_config.Values.{list_read, required_read, text_read, turned}

-- ---- weights

-- what has a fault of its own, if any, is read, or it is the fault
found_read : {X : Type 0} (F : Faults) (fault : ConfigFault) (found : Option X) (usual : X) → F itself ≡ (if is_some found then None else Some fault) →
    (F itself ≡ None → (p : Place) → F p ≡ None) → IsReading F (unwrap_or found usual) (ok_or found fault)
found_read F fault (Some x) usual e others = (others e, refl)
found_read F fault None usual e others = first_itself F fault e

only_itself : (path : Path) (d : Data) → weight_faults path d itself ≡ None → (p : Place) → weight_faults path d p ≡ None
only_itself path d e itself = e
only_itself path d e (unknown k) = refl
only_itself path d e (missing i) = refl
only_itself path d e (under i p) = refl
only_itself path d e (named k p) = refl

weight_read : Reads weight_faults (λ d. unwrap_or (weight_at d) 0) weight_read_at
weight_read path null up = first_itself _ _ refl
weight_read path (boolean b) up = first_itself _ _ refl
weight_read path (array ds) up = first_itself _ _ refl
weight_read path (object ms) up = first_itself _ _ refl
weight_read path (string s) up = found_read (weight_faults path (string s)) (BadWeight path) (weight_written s) 0 refl (only_itself path (string s))
weight_read path (number n) up = found_read (weight_faults path (number n)) (BadWeight path) (option_and_then weight_of (as_u64 n)) 0 refl (only_itself path (number n))

weight_under_read : (path : Path) (found : Option Data) → Meets IsOrdered found → IsReading (in_value weight_faults path found) (weight_in found) (weight_under path found)
weight_under_read path None up = (λ p. refl, refl)
weight_under_read path (Some d) up = weight_read path d up

-- ---- destinations

share_read : (source : List Token) → Reads (object_faults (destination_keys source)) (share_in source) (share_at source)
unfolding share_at template_at required_text_at
share_read source path d up =
    then_object (destination_keys source) path d (share_in source d) _ up λ clear.
    go_on _ 0 (text_in (value_under (codes "destination") d)) (share_in source d) (template_at source path d) _ clear
    (required_read (is_template source) BadDestination (λ text. text) (at_key path (codes "destination")) (template_from source (at_key path (codes "destination")))
    (λ text. turned (is_some (one_way_fault source text)) _ _) (get (codes "destination") d) (clear.at_missing 0)) λ clear.
    go_on _ 1 (weight_in (get (codes "weight") d)) (share_in source d) (weight_under (at_key path (codes "weight")) (get (codes "weight") d)) _ clear
    (weight_under_read _ _ (under-ordered (codes "weight") d up)) λ clear.
    (none_left (destination_keys source) path d clear, refl)

text_is : (source : List Token) (path : Path) (text : List ℕ) (faulty : Bool) →
    ((if faulty then Err (BadDestination path) else Ok text) >>= λ template. Ok (share_of source template 100 ∷ [])) ≡ (if not faulty then Ok (share_of source text 100 ∷ []) else Err (BadDestination path))
text_is source path text true = refl
text_is source path text false = refl

one_read : (source : List Token) (path : Path) (d : Data) → IsOrdered d → IsReading (object_faults (destination_keys source) path d) (share_in source d ∷ []) (object_shares source path d)
unfolding object_shares
one_read source path d up = mapped (object_faults (destination_keys source) path d) (λ share. share ∷ []) (share_in source d) (share_at source path d) (share_read source path d up)

shares_read : (source : List Token) → Reads (destinations_faults source) (shares_in source) (shares_at source)
unfolding text_shares list_at
shares_read source path null up = one_read source path null up
shares_read source path (boolean b) up = one_read source path (boolean b) up
shares_read source path (number n) up = one_read source path (number n) up
shares_read source path (string s) up =
    text_read (is_template source) BadDestination (λ text. share_of source text 100 ∷ []) path (λ text. text_shares source path text)
    (λ text. text_is source path text (is_some (one_way_fault source text))) (string s)
shares_read source path (array ds) up = list_read (object_faults (destination_keys source)) (share_in source) (share_at source) (share_read source) path (array ds) up
shares_read source path (object ms) up = one_read source path (object ms) up

-- ---- sources

-- what the weights add up to is judged last
total_read : (key : List ℕ) (path : Path) (d : Data) → IsClear (source_faults key path d) 1 → IsReading (source_faults key path d) (map_in key d) (map_from path (map_in key d))
total_read key path d clear = by (nat_lt 100 (sum_by share_weight (shares_in (tokens_of key) d))) refl
  where
    F : Faults
    F = source_faults key path d

    none : F (under 1 itself) ≡ None → (p : Place) → F (under 1 p) ≡ None
    none e itself = e
    none e (unknown k) = refl
    none e (missing i) = refl
    none e (under i p) = refl
    none e (named k p) = refl

    past : (i : ℕ) (p : Place) → 2 ≤ i → F (under i p) ≡ None
    past zero p le = absurd (omega arith)
    past (suc zero) p le = absurd (omega arith)
    past (suc (suc i)) p le = refl

    by : (b : Bool) → nat_lt 100 (sum_by share_weight (shares_in (tokens_of key) d)) ≡ b → IsReading F (map_in key d) (ok_or (if b then None else Some (map_in key d)) (BadWeight path))
    by true e = first_under F 1 (BadWeight path) clear (first_itself (λ p. F (under 1 p)) (BadWeight path) (rw e refl))
    by false e = (whole F 2 (next F 1 clear (none (rw e refl))) past (λ k p. refl), refl)

map_read : (key : List ℕ) (path : Path) (d : Data) → IsOrdered d → IsReading (source_faults key path d) (map_in key d) (map_at path key d)
unfolding map_at
map_read key path d up = by (is_some (pattern_fault key)) refl
  where
    F : Faults
    F = source_faults key path d

    by : (b : Bool) → is_some (pattern_fault key) ≡ b → IsReading F (map_in key d)
        (ok_or (if b then None else Some (tokens_of key)) (BadSubject path) >>= λ source. (shares_at source path d >>= λ shares. map_from path (map_of source shares)))
    by true e = first_itself F (BadSubject path) (rw e refl)
    by false e =
        go_on F 0 (shares_in (tokens_of key) d) (map_in key d) (shares_at (tokens_of key) path d) (λ shares. map_from path (map_of (tokens_of key) shares))
        (record { at_itself = rw e refl; at_unknown = λ k. refl; at_missing = λ i. refl; at_under = λ i p lt. absurd (omega arith) })
        (shares_read (tokens_of key) path d up) λ clear.
        total_read key path d clear

maps_read : (path : Path) (ms : Members) → IsAscending ms → IsReading (in_members source_faults path ms) (maps_in ms) (maps_from path ms)
maps_read path no_members up = (none_in source_faults path, refl)
maps_read path (member k d ms) up =
    member_read source_faults path k d ms up.0 (map_in k d) (maps_in (member k d ms)) (map_at (at_key path k) k d) (λ first. maps_from path ms >>= λ others. Ok (first ∷ others))
    (map_read k (at_key path k) d up.1)
    (mapped (in_members source_faults path ms) (λ others. map_in k d ∷ others) (maps_in ms) (maps_from path ms) (maps_read path ms up.2))

mappings_read : Reads mappings_faults mappings_in mappings_at
unfolding mappings_at
mappings_read path d up = members_read source_faults path maps_in (maps_from path) (maps_read path) d up

pub mappings_under_read : (path : Path) (found : Option Data) → Meets IsOrdered found →
    IsReading (in_value mappings_faults path found) (or_empty (option_map mappings_in found)) (mappings_under path found)
mappings_under_read path None up = (λ p. refl, refl)
mappings_under_read path (Some d) up = mappings_read path d up

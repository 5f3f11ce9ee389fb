-- Each part of a policy is read as its faults and what is written say.
use Rattle.std.proofs.Common.{◌≡◌, ℕ, negsuc, zero, suc, ◌≤◌, List, [], ◌∷◌, codes, Option, Some, None, option_map, option_and_then, Ok, Err, Bool, true, false, not, if◌then◌else◌, is_some, refl, ap, sym, ◌∙◌, subst, true≢false, arith}
use Rattle.std.specs.Prelude.{⊤}
use Rattle.std.specs.Ordering.{int_eq}
use Rattle.std.specs.Option.{ok_or, option_or, unwrap_or}
use Rattle.serde_json.specs.Data.{Data, null, boolean, number, string, array, object, Members, no_members, unsigned, negative, float}
use Rattle.serde_json.specs.Find.{get, as_object}
use Rattle.account_mappings.specs.Drawing.{SourceMap}
use Rattle.policy_doc.specs.declared.permission_doc.document.PermDoc.{PermDoc}
use Rattle.policy_doc.specs.declared.document.AccountDoc.{AccountDoc}
use Rattle.policy_doc.specs.declared.document.NamedAccount.{NamedAccount}
use Rattle.policy_doc.specs.declared.document.PolicyDoc.{PolicyDoc}
use Rattle.policy_doc.specs.declared.document.Version.{Version}
use Rattle.policy_doc.specs.declared.document.Version.TheVariants.{One, Two}
use Rattle.policy_walk.specs.declared.fault.ConfigFault.{ConfigFault}
use Rattle.policy_walk.specs.declared.fault.ConfigFault.TheVariants.{WrongType, BadSubject, BadMax, BadName, HashedPassword}
use Rattle.policy_permissions.specs.declared.entry.Side.{Side}
use Rattle.policy_permissions.specs.declared.entry.Side.TheVariants.{Publish, Subscribe}
use Rattle.policy_permissions.specs.Entry.{is_entry_text, entry_written}
use Rattle.policy_walk.specs.Fault.{◌>>=◌}
use Rattle.policy_walk.specs.Texts.{required_text_at}
use Rattle.policy_walk.specs.Path.{Path, at_key}
use Rattle.policy_walk.specs.Lists.{list_under}
use Rattle.policy_text.specs.rows.Exports.{export_at}
use Rattle.policy_text.specs.rows.Imports.{import_at}
use Rattle.policy_text.specs.account_config.Policy.{entry_from, entry_at, entries_at, entries_under, or_empty, lists_at, allow_at, direction_at, spelled_from, is_bound, max_at, max_under, duration_at, expires_under, terms_at, responses_at, responses_under, allow_responses_at, permissions_at, permissions_under, has_name_length, is_hashed, user_name_at, password_at, user_permissions_at, user_at, exports_under, imports_under, mappings_under, account_rows, account_at, is_account_name, named_account_at, accounts_from, accounts_at, top_rows, version_in, version_of, version_under, document_at}
use Rattle.policy_text.specs.account_config.Place.{Place, itself, unknown, missing, under, named, Faults, IsReading}
use Rattle.policy_text.specs.account_config.Tables.{unless_found, in_value, in_spelled, object_faults}
use Rattle.policy_text.specs.account_config.Standing.{entry_faults, entries_faults, direction_keys, direction_faults, max_faults, duration_faults, terms_keys, responses_faults, permission_keys, user_keys, export_faults, import_faults, account_keys, account_faults, accounts_faults, version_faults, top_keys}
use Rattle.policy_text.specs.account_config.Values.{text_in, list_in, value_under}
use Rattle.policy_text.specs.account_config.Mapped.{mappings_in}
use Rattle.policy_text.specs.account_config.Written.{entry_in, entries_in, lists_in, direction_in, bound_in, max_in, duration_in, terms_in, responses_in, permissions_in, user_in, export_in, import_in, account_in, accounts_in, document_in}
use Rattle.policy_text.proofs.account_config.Order.{IsOrdered, Meets, under-ordered}
use Rattle.policy_permissions.proofs.Entries.{entry_is}
use Rattle.policy_text.proofs.account_config.First.{IsClear, go_on, whole, first_itself, same_faults, mapped}
use Rattle.policy_text.proofs.account_config.Objects.{absent_read, none_left, not_there, rows_of, then_object, then_rows}
use Rattle.policy_text.proofs.account_config.Each.{Reads, accounts_read, members_read}
use Rattle.policy_text.proofs.account_config.Values.{text_read, turned, list_read, list_under_read, optional_read, duration_read, required_read}
use Rattle.policy_text.proofs.account_config.ExportRows.{export_read}
use Rattle.policy_text.proofs.account_config.ImportRows.{import_read}
use Rattle.policy_text.proofs.account_config.Mapped.{mappings_under_read}

-- ---- permissions

entry_read : (side : Side) → Reads (entry_faults side) (entry_in side) (entry_at side)
unfolding entry_at
entry_read side path d up = text_read (is_entry_text side) BadSubject (entry_written side) path (entry_from side path) (entry_is side path) d

entries_read : (side : Side) → Reads (entries_faults side) (entries_in side) (entries_at side)
unfolding entries_at
entries_read side path null up = list_read (entry_faults side) (entry_in side) (entry_at side) (entry_read side) path null up
entries_read side path (boolean b) up = list_read (entry_faults side) (entry_in side) (entry_at side) (entry_read side) path (boolean b) up
entries_read side path (number n) up = list_read (entry_faults side) (entry_in side) (entry_at side) (entry_read side) path (number n) up
entries_read side path (string s) up = mapped (entry_faults side path (string s)) (λ x. x ∷ []) (entry_in side (string s)) (entry_at side path (string s)) (entry_read side path (string s) up)
entries_read side path (array ds) up = list_read (entry_faults side) (entry_in side) (entry_at side) (entry_read side) path (array ds) up
entries_read side path (object ms) up = list_read (entry_faults side) (entry_in side) (entry_at side) (entry_read side) path (object ms) up

entries_under_read : (side : Side) (path : Path) (found : Option Data) → Meets IsOrdered found → IsReading (in_value (entries_faults side) path found) (option_map (entries_in side) found) (entries_under side path found)
entries_under_read side path None up = (λ p. refl, refl)
entries_under_read side path (Some d) up = optional_read (entries_faults side) (entries_in side) (entries_at side) (entries_read side) path d up

lists_read : (side : Side) (path : Path) (ms : Members) → IsOrdered (object ms) → IsReading (object_faults (direction_keys side) path (object ms)) (lists_in side (object ms)) (lists_at side path (object ms))
unfolding lists_at
lists_read side path ms up =
    let d : Data = object ms in
    then_object (direction_keys side) path d (lists_in side d) _ up λ clear.
    go_on _ 0 (option_map (entries_in side) (get (codes "allow") d)) (lists_in side d) (entries_under side (at_key path (codes "allow")) (get (codes "allow") d)) _ clear (entries_under_read side _ _ (under-ordered (codes "allow") d up)) λ clear.
    go_on _ 1 (option_map (entries_in side) (get (codes "deny") d)) (lists_in side d) (entries_under side (at_key path (codes "deny")) (get (codes "deny") d)) _ clear (entries_under_read side _ _ (under-ordered (codes "deny") d up)) λ clear.
    (none_left (direction_keys side) path d clear, refl)

direction_read : (side : Side) → Reads (direction_faults side) (lists_in side) (direction_at side)
unfolding allow_at
direction_read side path null up = mapped (entries_faults side path null) _ (entries_in side null) (entries_at side path null) (entries_read side path null up)
direction_read side path (boolean b) up = mapped (entries_faults side path (boolean b)) _ (entries_in side (boolean b)) (entries_at side path (boolean b)) (entries_read side path (boolean b) up)
direction_read side path (number n) up = mapped (entries_faults side path (number n)) _ (entries_in side (number n)) (entries_at side path (number n)) (entries_read side path (number n) up)
direction_read side path (string s) up = mapped (entries_faults side path (string s)) _ (entries_in side (string s)) (entries_at side path (string s)) (entries_read side path (string s) up)
direction_read side path (array ds) up = mapped (entries_faults side path (array ds)) _ (entries_in side (array ds)) (entries_at side path (array ds)) (entries_read side path (array ds) up)
direction_read side path (object ms) up = lists_read side path ms up

spelled_read : (side : Side) (long short : Path) (found other : Option Data) → Meets IsOrdered found → Meets IsOrdered other →
    IsReading (in_spelled (direction_faults side) long short found other) (direction_in side (option_or found other)) (spelled_from side long short found other)
spelled_read side long short None None up up' = (λ p. refl, refl)
spelled_read side long short None (Some d) up up' = direction_read side short d up'
spelled_read side long short (Some d) None up up' = direction_read side long d up
spelled_read side long short (Some d) (Some e) up up' = first_itself _ _ refl

-- ---- terms to answer on

-- a value that may have a fault of its own, and has none below
alone_read : {X : Type 0} (F : Faults) (written : X) (fault : ConfigFault) (b : Bool) → F itself ≡ (if b then None else Some fault) →
    (F itself ≡ None → (p : Place) → F p ≡ None) → IsReading F written (if b then Ok written else Err fault)
alone_read F written fault true e others = (others e, refl)
alone_read F written fault false e others = first_itself F fault e

max_read : Reads max_faults bound_in max_at
max_read path null up = first_itself _ _ refl
max_read path (boolean b) up = first_itself _ _ refl
max_read path (string s) up = first_itself _ _ refl
max_read path (array ds) up = first_itself _ _ refl
max_read path (object ms) up = first_itself _ _ refl
max_read path (number (float x)) up = first_itself _ _ refl
max_read path (number (unsigned n)) up = alone_read (max_faults path (number (unsigned n))) (Some n) (BadMax path) (is_bound n) refl others
  where
    others : max_faults path (number (unsigned n)) itself ≡ None → (p : Place) → max_faults path (number (unsigned n)) p ≡ None
    others e itself = e
    others e (unknown k) = refl
    others e (missing i) = refl
    others e (under i p) = refl
    others e (named k p) = refl
max_read path (number (negative z)) up = alone_read (max_faults path (number (negative z))) None (BadMax path) (int_eq z (negsuc 0)) refl others
  where
    others : max_faults path (number (negative z)) itself ≡ None → (p : Place) → max_faults path (number (negative z)) p ≡ None
    others e itself = e
    others e (unknown k) = refl
    others e (missing i) = refl
    others e (under i p) = refl
    others e (named k p) = refl

max_under_read : (path : Path) (found : Option Data) → Meets IsOrdered found → IsReading (in_value max_faults path found) (max_in found) (max_under path found)
max_under_read path None up = (λ p. refl, refl)
max_under_read path (Some d) up = max_read path d up

expires_under_read : (path : Path) (found : Option Data) → Meets IsOrdered found → IsReading (in_value duration_faults path found) (option_map duration_in found) (expires_under path found)
expires_under_read path None up = (λ p. refl, refl)
expires_under_read path (Some d) up = optional_read duration_faults duration_in duration_at duration_read path d up

terms_read : Reads (object_faults terms_keys) terms_in terms_at
unfolding terms_at
terms_read path d up =
    then_object terms_keys path d (terms_in d) _ up λ clear.
    go_on _ 0 (max_in (get (codes "max") d)) (terms_in d) (max_under (at_key path (codes "max")) (get (codes "max") d)) _ clear (max_under_read _ _ (under-ordered (codes "max") d up)) λ clear.
    go_on _ 1 (option_map duration_in (get (codes "expires") d)) (terms_in d) (expires_under (at_key path (codes "expires")) (get (codes "expires") d)) _ clear (expires_under_read _ _ (under-ordered (codes "expires") d up)) λ clear.
    (none_left terms_keys path d clear, refl)

object_terms_read : (path : Path) (d : Data) → IsOrdered d → IsReading (object_faults terms_keys path d) (Some (terms_in d)) (terms_at path d >>= λ terms. Ok (Some terms))
object_terms_read path d up = optional_read (object_faults terms_keys) terms_in terms_at terms_read path d up

responses_read : Reads responses_faults responses_in responses_at
responses_read path null up = object_terms_read path null up
responses_read path (boolean true) up = (λ p. refl, refl)
responses_read path (boolean false) up = (λ p. refl, refl)
responses_read path (number n) up = object_terms_read path (number n) up
responses_read path (string s) up = object_terms_read path (string s) up
responses_read path (array ds) up = object_terms_read path (array ds) up
responses_read path (object ms) up = object_terms_read path (object ms) up

responses_under_read : (path : Path) (found : Option Data) → Meets IsOrdered found →
    IsReading (in_value responses_faults path found) (option_and_then responses_in found) (responses_under path found)
responses_under_read path None up = (λ p. refl, refl)
responses_under_read path (Some d) up = responses_read path d up

permissions_read : Reads (object_faults permission_keys) permissions_in permissions_at
unfolding permissions_at allow_responses_at
permissions_read path d up =
    then_object permission_keys path d (permissions_in d) _ up λ clear.
    go_on _ 0 (direction_in Publish (option_or (get (codes "publish") d) (get (codes "pub") d))) (permissions_in d) _ _ clear
    (spelled_read Publish _ _ _ _ (under-ordered (codes "publish") d up) (under-ordered (codes "pub") d up)) λ clear.
    go_on _ 1 (direction_in Subscribe (option_or (get (codes "subscribe") d) (get (codes "sub") d))) (permissions_in d) _ _ clear
    (spelled_read Subscribe _ _ _ _ (under-ordered (codes "subscribe") d up) (under-ordered (codes "sub") d up)) λ clear.
    go_on _ 2 (option_and_then responses_in (get (codes "allow_responses") d)) (permissions_in d) (allow_responses_at path d) _ clear
    (responses_under_read _ _ (under-ordered (codes "allow_responses") d up)) λ clear.
    (none_left permission_keys path d clear, refl)

-- ---- users

permissions_under_read : (path : Path) (found : Option Data) → Meets IsOrdered found → IsReading (in_value (object_faults permission_keys) path found) (option_map permissions_in found) (permissions_under path found)
permissions_under_read path None up = (λ p. refl, refl)
permissions_under_read path (Some d) up = optional_read (object_faults permission_keys) permissions_in permissions_at permissions_read path d up

user_read : Reads (object_faults user_keys) user_in user_at
unfolding user_at user_name_at password_at user_permissions_at required_text_at
user_read path d up =
    then_object user_keys path d (user_in d) _ up λ clear.
    go_on _ 0 (text_in (unwrap_or (get (codes "user") d) null)) (user_in d) (user_name_at path d) _ clear
    (required_read has_name_length BadName (λ text. text) (at_key path (codes "user")) _ (λ text. refl) _ (clear.at_missing 0)) λ clear.
    go_on _ 1 (text_in (unwrap_or (get (codes "password") d) null)) (user_in d) (password_at path d) _ clear
    (required_read (λ password. not (is_hashed password)) HashedPassword (λ text. text) (at_key path (codes "password")) _ (λ text. turned (is_hashed text) _ _) _ (clear.at_missing 1)) λ clear.
    go_on _ 2 (option_map permissions_in (get (codes "permissions") d)) (user_in d) (user_permissions_at path d) _ clear
    (permissions_under_read _ _ (under-ordered (codes "permissions") d up)) λ clear.
    (none_left user_keys path d clear, refl)

-- ---- accounts

account_rows_are : (version : Version) → rows_of (account_keys version) ≡ account_rows version
account_rows_are One = refl
account_rows_are Two = refl

-- an account but for its mappings
abbrev account_with : Data → List SourceMap → AccountDoc
account_with d mappings = record {
  users = or_empty (option_map (list_in user_in) (get (codes "users") d));
  exports = or_empty (option_map (list_in export_in) (get (codes "exports") d));
  imports = or_empty (option_map (list_in import_in) (get (codes "imports") d));
  mappings = mappings;
}

-- its mappings are read last; in the first version there are none
mappings_last : (version : Version) (path : Path) (d : Data) → IsOrdered d → IsClear (object_faults (account_keys version) path d) 3 →
    IsReading (object_faults (account_keys version) path d) (account_in d)
    (mappings_under (at_key path (codes "mappings")) (get (codes "mappings") d) >>= λ mappings. Ok (account_with d mappings))
mappings_last One path d up clear =
    absent_read _ (λ found. or_empty (option_map mappings_in found)) (mappings_under (at_key path (codes "mappings"))) (account_with d) refl (none_left (account_keys One) path d clear)
    (get (codes "mappings") d) (not_there _ _ (clear.at_unknown (codes "mappings")))
mappings_last Two path d up clear =
    go_on _ 3 (or_empty (option_map mappings_in (get (codes "mappings") d))) (account_in d)
    (mappings_under (at_key path (codes "mappings")) (get (codes "mappings") d)) _ clear
    (mappings_under_read _ _ (under-ordered (codes "mappings") d up)) λ clear.
    (none_left (account_keys Two) path d clear, refl)

account_read : (version : Version) → Reads (object_faults (account_keys version)) account_in (account_at version)
unfolding account_at
account_read version path d up =
    then_rows (account_keys version) (account_rows version) (account_rows_are version) path d (account_in d) _ up λ clear.
    go_on _ 0 (or_empty (option_map (list_in user_in) (get (codes "users") d))) (account_in d) (list_under user_at (at_key path (codes "users")) (get (codes "users") d)) _ clear
    (list_under_read (object_faults user_keys) user_in user_at user_read _ _ (under-ordered (codes "users") d up)) λ clear.
    go_on _ 1 (or_empty (option_map (list_in export_in) (get (codes "exports") d))) (account_in d)
    (exports_under (at_key path (codes "exports")) (get (codes "exports") d)) _ clear
    (list_under_read export_faults export_in export_at export_read _ _ (under-ordered (codes "exports") d up)) λ clear.
    go_on _ 2 (or_empty (option_map (list_in import_in) (get (codes "imports") d))) (account_in d)
    (imports_under (at_key path (codes "imports")) (get (codes "imports") d)) _ clear
    (list_under_read import_faults import_in import_at import_read _ _ (under-ordered (codes "imports") d up)) λ clear.
    mappings_last version path d up clear

named_read : (version : Version) (path : Path) (name : List ℕ) (d : Data) → IsOrdered d →
    IsReading (account_faults version name (at_key path name) d) (record { name = name; account = account_in d }) (named_account_at version path name d)
unfolding named_account_at
named_read version path name d up = by (is_account_name name) refl
  where
    F : Faults
    F = account_faults version name (at_key path name) d

    named_account : NamedAccount
    named_account = record { name = name; account = account_in d }

    past : (i : ℕ) (p : Place) → 1 ≤ i → F (under i p) ≡ None
    past zero p le = absurd (omega arith)
    past (suc i) p le = refl

    by : (b : Bool) → is_account_name name ≡ b → IsReading F named_account
        ((if b then Ok name else Err (BadName (at_key path name))) >>= λ n. (account_at version (at_key path name) d >>= λ account. Ok (record { name = n; account = account })))
    by false e = first_itself F (BadName (at_key path name)) (rw e refl)
    by true e =
        go_on F 0 (account_in d) named_account (account_at version (at_key path name) d) _
        (record { at_itself = rw e refl; at_unknown = λ k. refl; at_missing = λ i. refl; at_under = λ i p lt. absurd (omega arith) })
        (account_read version (at_key path name) d up) λ clear.
        (whole F 1 clear past (λ k p. refl), refl)

accounts_read_at : (version : Version) (path : Path) (d : Data) → IsOrdered d →
    IsReading (accounts_faults version path d) (accounts_in [] (unwrap_or (as_object d) no_members)) (accounts_at version path d)
unfolding accounts_at
accounts_read_at version path d up =
    members_read (account_faults version) path (accounts_in []) (accounts_from version [] path) (accounts_read version (named_read version) path []) d up

-- ---- the whole

abbrev nothing : ⊤
nothing = tt

version_read : (path : Path) (found : Option Data) → IsReading (in_value version_faults path found) nothing (version_under path found)
version_read path None = (λ p. refl, refl)
version_read path (Some d) = by (is_some (version_of d)) refl
  where
    F : Faults
    F = version_faults path d

    none : is_some (version_of d) ≡ true → (p : Place) → F p ≡ None
    none e itself = rw e refl
    none e (unknown k) = refl
    none e (missing i) = refl
    none e (under i p) = refl
    none e (named k p) = refl

    by : (b : Bool) → is_some (version_of d) ≡ b → IsReading F nothing (if b then Ok nothing else Err (WrongType path))
    by true e = (none e, refl)
    by false e = first_itself F (WrongType path) (rw e refl)

top_rows_are : (version : Version) → rows_of (top_keys version) ≡ top_rows version
top_rows_are One = refl
top_rows_are Two = refl

-- the document of a version but for its default permissions
abbrev document_with : Version → Data → Option PermDoc → PolicyDoc
document_with version d default = record {
  accounts = accounts_in [] (unwrap_or (as_object (value_under (codes "accounts") d)) no_members);
  version = version;
  default_permissions = default;
}

-- the default permissions are read last; in the first version there are none
default_last : (version : Version) (path : Path) (d : Data) → IsOrdered d → IsClear (object_faults (top_keys version) path d) 2 →
    IsReading (object_faults (top_keys version) path d) (document_with version d (option_map permissions_in (get (codes "default_permissions") d)))
    (permissions_under (at_key path (codes "default_permissions")) (get (codes "default_permissions") d) >>= λ default. Ok (document_with version d default))
default_last One path d up clear =
    absent_read _ (option_map permissions_in) (permissions_under (at_key path (codes "default_permissions"))) (document_with One d) refl (none_left (top_keys One) path d clear)
    (get (codes "default_permissions") d) (not_there _ _ (clear.at_unknown (codes "default_permissions")))
default_last Two path d up clear =
    go_on _ 2 (option_map permissions_in (get (codes "default_permissions") d)) _
    (permissions_under (at_key path (codes "default_permissions")) (get (codes "default_permissions") d)) _ clear
    (permissions_under_read _ _ (under-ordered (codes "default_permissions") d up)) λ clear.
    (none_left (top_keys Two) path d clear, refl)

pub document_read : (path : Path) (d : Data) → IsOrdered d → IsReading (object_faults (top_keys (version_in d)) path d) (document_in d) (document_at path d)
unfolding document_at
document_read path d up =
    then_rows (top_keys version) (top_rows version) (top_rows_are version) path d (document_in d) _ up λ clear.
    given clear (get (codes "accounts") d) refl (under-ordered (codes "accounts") d up)
  where
    version : Version
    version = version_in d

    F : Faults
    F = object_faults (top_keys version) path d

    below : Path
    below = at_key path (codes "accounts")

    given : IsClear F 0 → (found : Option Data) → get (codes "accounts") d ≡ found → Meets IsOrdered found →
        IsReading F (document_in d)
        (ok_or found (WrongType below) >>= λ value. (accounts_at version below value >>= λ accounts.
        (version_under (at_key path (codes "version")) (get (codes "version") d) >>= λ allowed.
        (permissions_under (at_key path (codes "default_permissions")) (get (codes "default_permissions") d) >>= λ default.
        Ok (record { accounts = accounts; version = version; default_permissions = default })))))
    given clear None e inside = absurd (true≢false (sym (ap (λ (o : Option Data). is_some (unless_found o (WrongType below))) e) ∙ ap is_some (clear.at_missing 0)))
    given clear (Some v) e inside =
        go_on F 0 (accounts_in [] (unwrap_or (as_object v) no_members)) (document_in d) (accounts_at version below v) _ clear
        (same_faults (accounts_faults version below v) (λ p. F (under 0 p)) (λ p. rw e refl) _ _ (accounts_read_at version below v inside)) λ clear.
        go_on F 1 nothing (document_in d) (version_under (at_key path (codes "version")) (get (codes "version") d)) _ clear (version_read (at_key path (codes "version")) (get (codes "version") d)) λ clear.
        subst (λ (list : List NamedAccount). IsReading F (document_in d)
        (permissions_under (at_key path (codes "default_permissions")) (get (codes "default_permissions") d) >>= λ default.
        Ok (record { accounts = list; version = version; default_permissions = default })))
        (ap (λ (o : Option Data). accounts_in [] (unwrap_or (as_object (unwrap_or o null)) no_members)) e) (default_last version path d up clear)

-- Where a fault stands in a policy's text, in words (docs/POLICY.md, "Where a fault stands").
use Rattle.std.specs.Prelude.{◌≡◌, ◌++◌, ◌∷◌, ◌==◌, ◌||◌, ◌&&◌, ℕ, List, [], Bool, true, false, Option, None, Some, codes, drop, if◌then◌else◌, nat_eq, not, take}
use Rattle.std.specs.List.{list_any, prefix_len, starts_with}
use Rattle.std.specs.Option.{option_and_then, option_map}
use Rattle.std.specs.Str.{is_utf8}
use Rattle.json.specs.Lex.{tokens}
use Rattle.json.specs.Print.{quoted}
use Rattle.json.specs.Token.{Token, begin_object, end_object, begin_array, end_array, key, string, number, boolean, null, bad}
use Rattle.serde_json.specs.Find.{as_str, pointer}
use Rattle.serde_json.specs.Read.{read}
use Rattle.policy_doc.specs.Faults.{fault_place}
use Rattle.policy_doc.specs.declared.fault.Place.{Place as Row}
use Rattle.policy_doc.specs.declared.fault.PolicyFault.{PolicyFault}
use Rattle.policy_doc.specs.declared.fault.PolicyFault.TheVariants.{DuplicateUser}
use Rattle.policy_walk.specs.Path.{Path, at_key, at_index}
use Rattle.policy_walk.specs.declared.fault.ConfigFault.{ConfigFault}
use Rattle.policy_walk.specs.declared.fault.ConfigFault.TheVariants.{TooLarge, NotJson, UnknownKey, WrongType, BadSubject, BadDuration, BadMax, BadName, HashedPassword, BadWeight, BadDestination, NoMemory}
use Rattle.policy_text.specs.declared.reload.fault.ReloadFault.{ReloadFault}
use Rattle.policy_text.specs.declared.reload.fault.ReloadFault.TheVariants.{Config, Policy}
use Rattle.policy_notes.specs.positions.Names.{at_of}
use Rattle.policy_notes.specs.positions.Spots.{AreSpots}
use Rattle.policy_notes.specs.positions.Place.{column_after, line_after, place_words}
use Rattle.policy_notes.specs.declared.positions.place.Place.{Place}
use Rattle.policy_notes.specs.declared.positions.spots.Spot.{Spot}
use Rattle.policy_notes.specs.Twins.{twin_path}
use Rattle.policy_notes.specs.declared.place.Named.{Named}
use Rattle.policy_notes.specs.declared.place.Shown.{Shown}
use Rattle.policy_notes.specs.declared.place.Shown.TheVariants.{Nothing, Text, Key}

-- ---- what a fault names: a path, and what is shown of what stands there

abbrev pub naming : Path → Shown → Option Named
naming path shown = Some (record { path = path; shown = shown })

-- an account's path is `/accounts/` and its name, in which a path prints no `/`
abbrev pub is_account : Path → Bool
is_account path = starts_with nat_eq path (codes "/accounts/") && not (list_any (λ b. b == 47) (drop 10 path))

-- an account's name is a key, and any other a text that stands under its path
abbrev pub shown_name : Path → Shown
shown_name path = if is_account path then Key else Text

-- of a document's fault: a text that is no pattern, duration, name, weight or destination is shown
abbrev pub named_by_config : ConfigFault → Option Named
named_by_config TooLarge = None
named_by_config NotJson = None
named_by_config (UnknownKey path) = naming path Nothing
named_by_config (WrongType path) = naming path Nothing
named_by_config (BadSubject path) = naming path Text
named_by_config (BadDuration path) = naming path Text
named_by_config (BadMax path) = naming path Nothing
named_by_config (BadName path) = naming path (shown_name path)
named_by_config (HashedPassword path) = naming path Nothing
named_by_config (BadWeight path) = naming path Text
named_by_config (BadDestination path) = naming path Text
named_by_config NoMemory = None

-- the row of an account that has a policy's fault: of a user that there is already, its name, which is shown
abbrev pub account_path : List ℕ → Path
account_path account = at_key (at_key [] (codes "accounts")) account

abbrev pub user_path : List ℕ → ℕ → Path
user_path account row = at_key (at_index (at_key (account_path account) (codes "users")) row) (codes "user")

abbrev pub import_path : List ℕ → ℕ → Path
import_path account row = at_index (at_key (account_path account) (codes "imports")) row

abbrev pub is_duplicate : PolicyFault → Bool
is_duplicate (DuplicateUser place) = true
is_duplicate fault = false

abbrev pub row_named : PolicyFault → List ℕ → ℕ → Option Named
row_named fault account row = if is_duplicate fault then naming (user_path account row) Text else naming (import_path account row) Nothing

abbrev pub named_row : PolicyFault → List ℕ → Option Row → Option Named
named_row fault account None = None
named_row fault account (Some place) = row_named fault account place.row

abbrev pub named_by : ReloadFault → Option Named
named_by (Config fault) = named_by_config fault
named_by (Policy fault account) = if is_utf8 account then named_row fault account (fault_place fault) else None

-- ---- where it stands

-- the place of a byte of a text
abbrev pub place_of : List ℕ → ℕ → Place
place_of text at = record { line = line_after 1 (take at text); column = column_after 1 (take at text) }

abbrev pub is_space : ℕ → Bool
is_space b = b == 32 || b == 9 || b == 10 || b == 13

-- what names nothing stands where the whole begins
abbrev pub begin_or : List ℕ → Option ℕ → ℕ
begin_or text None = prefix_len is_space text
begin_or text (Some at) = at

abbrev pub byte_under : List ℕ → List Spot → Path → ℕ
byte_under text spots path = begin_or text (at_of spots path)

abbrev pub place_under : List ℕ → List Spot → Path → Place
place_under text spots path = place_of text (byte_under text spots path)

-- the text that a JSON text has under a path, if one stands there, as JSON writes it
abbrev pub text_under : List ℕ → Path → Option (List ℕ)
text_under text path = option_and_then (λ d. option_map quoted (option_and_then as_str (pointer path d))) (read text)

-- the key that some tokens begin with
abbrev pub first_key : List Token → Option (List ℕ)
first_key [] = None
first_key (begin_object ∷ ts) = None
first_key (end_object ∷ ts) = None
first_key (begin_array ∷ ts) = None
first_key (end_array ∷ ts) = None
first_key (key k ∷ ts) = Some k
first_key (string s ∷ ts) = None
first_key (number s ∷ ts) = None
first_key (boolean b ∷ ts) = None
first_key (null ∷ ts) = None
first_key (bad ∷ ts) = None

-- the key that begins at a byte of a JSON text, as JSON writes it
abbrev pub key_at : List ℕ → ℕ → Option (List ℕ)
key_at text at = if is_utf8 (drop at text) then option_map quoted (first_key (tokens (drop at text))) else None

abbrev pub shown_if : Shown → List ℕ → Path → ℕ → Option (List ℕ)
shown_if Nothing text path at = None
shown_if Text text path at = text_under text path
shown_if Key text path at = key_at text at

-- a place behind the text or the key that stands there, if it is shown
abbrev pub shown_words : Option (List ℕ) → List ℕ
shown_words None = []
shown_words (Some shown) = shown ++ codes " "

abbrev pub told : Option (List ℕ) → Place → List ℕ
told shown place = shown_words shown ++ (codes "at " ++ place_words place)

abbrev pub told_of : List ℕ → List Spot → Named → List ℕ
told_of text spots n = told (shown_if n.shown text n.path (byte_under text spots n.path)) (place_under text spots n.path)

-- a fault with a place; of a user whose name there is already, the first user's place too
abbrev pub twin_words : List ℕ → List Spot → Option Path → List ℕ
twin_words text spots None = []
twin_words text spots (Some path) = codes " and at " ++ place_words (place_under text spots path)

abbrev pub told_fault : List ℕ → List Spot → ReloadFault → Option (List ℕ)
told_fault text spots fault = option_map (λ n. told_of text spots n ++ twin_words text spots (twin_path text fault)) (named_by fault)

-- where a path leads among a text's spots, with the text that stands there
abbrev pub IsToldOf : List ℕ → Path → List ℕ → Type 0
IsToldOf text path words = (spots : List Spot) × AreSpots text spots × (words ≡ told_of text spots (record { path = path; shown = Text }))

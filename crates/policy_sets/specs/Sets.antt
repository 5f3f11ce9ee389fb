-- Which accounts exchange messages at all (docs/POLICY.md, "Tenants that exchange nothing").
use Rattle.std.specs.Prelude.{◌≡◌, Bool, List, [], ◌∷◌, map, filter, All, Any, IsTrue, if◌then◌else◌}
use Rattle.std.specs.List.{count_by, flat_map, fold, list_any}
use Rattle.std.specs.Ordering.{nat_cmp, is_lt}
use Rattle.std.specs.Cmp.Lexicographic.{slice_cmp}
use Rattle.std.specs.Str.{bytes_eq}
use Rattle.policy_doc.specs.Accounts.{Name, account_name}
use Rattle.policy_doc.specs.declared.document.ImportDoc.{ImportDoc}
use Rattle.policy_doc.specs.declared.document.NamedAccount.{NamedAccount}
use Rattle.policy_doc.specs.declared.document.PolicyDoc.{PolicyDoc}

-- the two ends of an import row: the accounts that it is of and from
pub record Ends : Type 0 where
  pub importer : Name
  pub exporter : Name

abbrev pub ends_at : Name → ImportDoc → Ends
ends_at importer i = record { importer = importer; exporter = i.account }

-- the ends of all import rows, of streams and services alike
abbrev pub ends_in : NamedAccount → List Ends
ends_in a = map (ends_at a.name) a.account.imports

abbrev pub ends_of : List NamedAccount → List Ends
ends_of accounts = flat_map ends_in accounts

abbrev pub names_of : List NamedAccount → List Name
names_of accounts = map account_name accounts

-- a set of accounts is closed: no import row has one end in it and one outside
abbrev pub IsClosed : PolicyDoc → (Name → Bool) → Type 0
IsClosed doc K = All (λ (row : Ends). K row.importer ≡ K row.exporter) (ends_of doc.accounts)

-- whether an account is among these
abbrev pub is_in : List Name → Name → Bool
is_in set name = list_any (bytes_eq name) set

-- a closed set that has one of these accounts has all of them
abbrev pub IsUndivided : PolicyDoc → List Name → Type 0
IsUndivided doc set = (K : Name → Bool) → IsClosed doc K → Any (λ name. IsTrue (K name)) set → All (λ name. IsTrue (K name)) set

abbrev pub first_in : List Name → Name
first_in [] = []
first_in (name ∷ more) = name

-- The smallest closed sets of a document: every account stands in exactly one, each is closed, and none is smaller. Each has
-- its accounts in the order of their names, and they are in the order of their first accounts.
pub record AreClosedSets (doc : PolicyDoc) (sets : List (List Name)) : Type 0 where
  pub one : All (λ name. count_by (λ set. is_in set name) sets ≡ 1) (names_of doc.accounts)
  pub closed : All (λ set. IsClosed doc (is_in set)) sets
  pub smallest : All (IsUndivided doc) sets
  pub accounts : All (λ set. set ≡ filter (is_in set) (names_of doc.accounts)) sets
  pub order : map first_in sets ≡ filter (is_in (map first_in sets)) (names_of doc.accounts)

-- ---- the same computed, row by row

abbrev pub exchanged : Name → Name → Name → Name
exchanged old new name = if bytes_eq name old then new else name

-- where the first accounts of two sets are these, the greater gives way to the lesser
abbrev pub lesser_of : Name → Name → Name → Name
lesser_of one other name = if is_lt (slice_cmp nat_cmp one other) then exchanged other one name else exchanged one other name

-- the first account of each account's set, once a row has joined two sets
abbrev pub joined : (Name → Name) → Ends → Name → Name
joined first row name = lesser_of (first row.importer) (first row.exporter) (first name)

abbrev pub joined_by : (Name → Name) → List Ends → Name → Name
joined_by first rows = fold joined first rows

-- the first account of each account's set, once all rows have joined what stood alone
abbrev pub first_of : List NamedAccount → Name → Name
first_of accounts = joined_by (λ name. name) (ends_of accounts)

abbrev pub set_of : (Name → Name) → List Name → Name → List Name
set_of first names name = filter (λ other. bytes_eq (first other) name) names

abbrev pub sets_by : (Name → Name) → List Name → List (List Name)
sets_by first names = map (set_of first names) (filter (λ name. bytes_eq (first name) name) names)

-- the smallest closed sets of accounts
unfoldable pub sets_of : List NamedAccount → List (List Name)
sets_of accounts = sets_by (first_of accounts) (names_of accounts)

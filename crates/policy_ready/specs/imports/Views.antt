-- The import rows of a policy, and which views are the same (docs/GUARANTEE.md, "Views").
use Rattle.std.specs.Prelude.{◌&&◌, ◌∷◌, ◌+◌, ℕ, Bool, false, List, [], codes, filter, not}
use Rattle.std.specs.List.{flat_map}
use Rattle.std.specs.Str.{bytes_eq}
use Rattle.subjects.specs.Subject.{Token}
use Rattle.subjects.specs.Equal.{same_subject}
use Rattle.policy_doc.specs.Imports.{mapping_of}
use Rattle.policy_doc.specs.declared.document.ImportDoc.{ImportDoc}
use Rattle.policy_doc.specs.declared.document.NamedAccount.{NamedAccount}
use Rattle.policy_doc.specs.declared.document.PolicyDoc.{PolicyDoc}
use Rattle.policy_ready.specs.declared.imports.rows.ImportRow.{ImportRow}
use Rattle.policy_ready.specs.declared.imports.view.ViewItem.{ViewItem}
use Rattle.policy_ready.specs.declared.imports.view.ViewItem.TheVariants.{At, TooLong}

-- ---- the rows of a policy

-- the row at an index of an account's imports
abbrev pub row_at : List ℕ → ℕ → ImportDoc → ImportRow
row_at importer index i =
    record { row = record { importer = importer; index = index }; kind = i.kind; exporter = i.account; mapping = mapping_of i }

-- an account's import rows, from an index on
abbrev pub rows_from : List ℕ → ℕ → List ImportDoc → List ImportRow
rows_from importer index [] = []
rows_from importer index (i ∷ more) = row_at importer index i ∷ rows_from importer (index + 1) more

abbrev pub rows_in : NamedAccount → List ImportRow
rows_in a = rows_from a.name 0 a.account.imports

-- all import rows, by the importer's name, then by index
abbrev pub rows_of : PolicyDoc → List ImportRow
rows_of doc = flat_map rows_in doc.accounts

-- ---- subjects of response routes

-- a subject that begins with the token `_R_` belongs to the answers of services, and crosses no row
abbrev pub is_route : List Token → Bool
is_route [] = false
is_route (t ∷ ts) = bytes_eq t (codes "_R_")

-- ---- views

-- whether a view is of this account and subject. A row that is reported is of none.
abbrev pub is_at : List ℕ → List Token → ViewItem → Bool
is_at a s (At b t way) = bytes_eq a b && same_subject s t
is_at a s (TooLong row) = false

-- whether the second view is of the account and subject of the first
abbrev pub is_same : ViewItem → ViewItem → Bool
is_same (At a s way) v = is_at a s v
is_same (TooLong row) v = false

-- of views of the same account and subject the first
abbrev pub first_of_each : List ViewItem → List ViewItem
first_of_each [] = []
first_of_each (v ∷ vs) = v ∷ filter (λ u. not (is_same v u)) (first_of_each vs)

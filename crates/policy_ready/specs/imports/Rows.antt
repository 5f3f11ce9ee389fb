-- What is known of import rows, and how the views across them are gathered.
use Rattle.std.specs.Prelude.{◌≡◌, ◌&&◌, ◌++◌, ◌∷◌, ℕ, Bool, false, List, [], Option, Some, None, map, if◌then◌else◌}
use Rattle.std.specs.List.{list_any, slice_index_or}
use Rattle.std.specs.Str.{bytes_eq}
use Rattle.subjects.specs.Subject.{Token, in_set}
use Rattle.subjects.specs.Fingerprint.{hash_from}
use Rattle.mapping.specs.Pairs.{IsRowMap}
use Rattle.subjects.specs.pattern_groups.Hashes.{front_from}
use Rattle.policy_doc.specs.declared.exports.document.Kind.TheVariants as kind
use Rattle.policy_ready.specs.imports.Across.{entrance_of, source_of}
use Rattle.policy_ready.specs.imports.Views.{is_same}
use Rattle.policy_ready.specs.declared.imports.rows.ImportRow.{ImportRow}
use Rattle.policy_ready.specs.declared.imports.view.ViewItem.{ViewItem}

-- what each row of a valid policy is: it imports from another account, and by a mapping
pub record IsRow (r : ImportRow) : Type 0 where
  pub other : bytes_eq r.exporter r.row.importer ≡ false
  pub mapping : IsRowMap r.mapping

-- views with what one more row gives: nothing, or a view, which is left out where one of its account and subject stands
abbrev pub with_crossing : List ViewItem → Option ViewItem → List ViewItem
with_crossing views None = views
with_crossing views (Some v) = if list_any (λ u. is_same u v) views then views else views ++ v ∷ []

-- ---- which rows are asked

-- whether messages of an account on a subject cross a row
abbrev pub is_crossed : List ℕ → List Token → ImportRow → Bool
is_crossed account s r = bytes_eq (source_of r) account && in_set (entrance_of r) s

-- the hash by which a row is found: that of the account whose messages cross it, and of the literal tokens that their
-- subjects begin with
abbrev pub row_hash : ImportRow → ℕ
row_hash r = front_from (hash_from 7 (source_of r)) (entrance_of r)

abbrev pub hashes_of : List ImportRow → List ℕ
hashes_of rows = map row_hash rows

-- what stands behind the rows
abbrev pub no_row : ImportRow
no_row = record { row = record { importer = []; index = 0 }; kind = kind.Stream; exporter = []; mapping = record { outer = []; local = []; references = [] } }

abbrev pub row_by : List ImportRow → ℕ → ImportRow
row_by rows i = slice_index_or rows i no_row

-- the rows at these places
abbrev pub rows_at : List ImportRow → List ℕ → List ImportRow
rows_at rows places = map (row_by rows) places

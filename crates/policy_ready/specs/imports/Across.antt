-- Views across rows of either kind, and by response routes (NATS documentation, "Multi Tenancy using Accounts" and "Subject
-- Mapping and Partitioning"; docs/GUARANTEE.md, "Views"). A message of a stream goes from the exporter to the importer, a
-- request to a service from the importer to the exporter.
use Rattle.std.specs.Prelude.{◌++◌, ◌∷◌, ℕ, List, [], Option, None, length, nat_lt, if◌then◌else◌}
use Rattle.std.specs.List.{filter_map}
use Rattle.std.specs.Option.{option_map}
use Rattle.std.specs.Str.{bytes_eq}
use Rattle.subjects.specs.Subject.{Token}
use Rattle.mapping.specs.Pairs.{RowMap, forward, back}
use Rattle.policy_doc.specs.declared.exports.document.Kind.{Kind}
use Rattle.policy_doc.specs.declared.exports.document.Kind.TheVariants as kind
use Rattle.policy_doc.specs.declared.exports.document.Row.{Row}
use Rattle.policy_doc.specs.declared.document.PolicyDoc.{PolicyDoc}
use Rattle.policy_ready.specs.imports.Views.{first_of_each, is_route, rows_of}
use Rattle.policy_ready.specs.declared.imports.rows.ImportRow.{ImportRow}
use Rattle.policy_ready.specs.declared.imports.view.ViewItem.{ViewItem}
use Rattle.policy_ready.specs.declared.imports.view.ViewItem.TheVariants.{At, TooLong}
use Rattle.policy_ready.specs.declared.imports.view.Way.{Way}
use Rattle.policy_ready.specs.declared.imports.view.Way.TheVariants.{Own, Stream, Service}

-- ---- the ends of a row

-- of two things the one that is at the exporter's end of a stream, and at the importer's end of a service; and the other
abbrev pub first_by : {X : Type 0} → Kind → X → X → X
first_by kind.Stream exporter importer = exporter
first_by kind.Service exporter importer = importer

abbrev pub last_by : {X : Type 0} → Kind → X → X → X
last_by kind.Stream exporter importer = importer
last_by kind.Service exporter importer = exporter

-- the account whose messages cross the row, and the account in which they are seen
abbrev pub source_of : ImportRow → List ℕ
source_of r = first_by r.kind r.exporter r.row.importer

abbrev pub target_of : ImportRow → List ℕ
target_of r = last_by r.kind r.exporter r.row.importer

-- the pattern of the subjects that cross it
abbrev pub entrance_of : ImportRow → List Token
entrance_of r = first_by r.kind r.mapping.outer r.mapping.local

-- the subject beyond the row of one before it
abbrev pub across_by : Kind → RowMap → List Token → Option (List Token)
across_by kind.Stream m s = forward m s
across_by kind.Service m s = back m s

abbrev pub across : ImportRow → List Token → Option (List Token)
across r s = across_by r.kind r.mapping s

abbrev pub way_by : Kind → Row → Way
way_by kind.Stream row = Stream row
way_by kind.Service row = Service row

abbrev pub way_of : ImportRow → Way
way_of r = way_by r.kind r.row

-- ---- crossing a row

-- the message is seen beyond the row under its subject there, if that isn't too long
abbrev pub crossed : ImportRow → List Token → ViewItem
crossed r s = if nat_lt 512 (length s) then TooLong r.row else At (target_of r) s (way_of r)

-- what a row gives of a message that an account publishes on a subject, if it gives anything
abbrev pub crossing : List ℕ → List Token → ImportRow → Option ViewItem
crossing account s r = if bytes_eq (source_of r) account then option_map (crossed r) (across r s) else None

-- what these rows give, in order; a subject that begins with the token `_R_` belongs to responses, and crosses no row
abbrev pub crossings_in : List ImportRow → List ℕ → List Token → List ViewItem
crossings_in rows account s = if is_route s then [] else filter_map (crossing account s) rows

-- ---- views

-- The views of a message that a user of an account publishes on a subject: the account's own one, then those across these
-- rows in order, then what the account's live response routes give of the subject. Of equal ones the first.
abbrev pub views_in : List ImportRow → List ℕ → List Token → List ViewItem → List ViewItem
views_in rows account s responses = first_of_each (At account s Own ∷ (crossings_in rows account s ++ responses))

-- those across the rows of a policy. What comes by a view makes no further views.
abbrev pub views : PolicyDoc → List ℕ → List Token → List ViewItem → List ViewItem
views doc account s responses = views_in (rows_of doc) account s responses

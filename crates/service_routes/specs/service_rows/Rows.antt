-- The import rows of services: on which terms their requests are answered, and which of them another policy has again
-- (docs/POLICY.md, "Exports and imports"; docs/GUARANTEE.md, "Response routes").
use Rattle.std.specs.Prelude.{◌&&◌, ℕ, Bool, true, false, List, Option, Some, None, find, position, slice_get}
use Rattle.std.specs.Option.{option_and_then, option_map, option_map_or}
use Rattle.std.specs.Str.{bytes_eq}
use Rattle.subjects.specs.Equal.{same_subject}
use Rattle.policy_doc.specs.declared.exports.document.ExportDoc.{ExportDoc}
use Rattle.policy_doc.specs.declared.exports.document.Kind.{Kind}
use Rattle.policy_doc.specs.declared.exports.document.Kind.TheVariants.{Stream, Service}
use Rattle.policy_doc.specs.declared.exports.document.ResponseTerms.{ResponseTerms}
use Rattle.policy_doc.specs.declared.exports.document.Row.{Row}
use Rattle.policy_doc.specs.Accounts.{Name, has_name}
use Rattle.policy_doc.specs.Imports.{export_of, exporter_of}
use Rattle.policy_doc.specs.declared.document.ImportDoc.{ImportDoc}
use Rattle.policy_doc.specs.declared.document.NamedAccount.{NamedAccount}
use Rattle.policy_doc.specs.declared.document.PolicyDoc.{PolicyDoc}
use Rattle.service_exporter.specs.declared.route.NewRow.{NewRow}

-- the import of an account at an index, if it has one
abbrev pub import_at : PolicyDoc → Name → ℕ → Option ImportDoc
import_at doc importer index = option_and_then (λ (a : NamedAccount). slice_get a.account.imports index) (find (has_name importer) doc.accounts)

-- ---- terms

-- where there is no export: no response comes in time
abbrev pub no_terms : ResponseTerms
no_terms = record { ttl = 0; single = true }

abbrev pub terms_in : List ExportDoc → Option ℕ → ResponseTerms
terms_in exports place = option_map_or (λ (e : ExportDoc). e.response) (option_and_then (slice_get exports) place) no_terms

abbrev pub terms_by : Name → ImportDoc → NamedAccount → ResponseTerms
terms_by importer i exporter = terms_in exporter.account.exports (export_of importer i exporter)

abbrev pub terms_for : PolicyDoc → Name → ImportDoc → ResponseTerms
terms_for doc importer i = option_map_or (terms_by importer i) (exporter_of doc.accounts i) no_terms

abbrev pub terms_at : PolicyDoc → Name → ℕ → ResponseTerms
terms_at doc importer index = option_map_or (terms_for doc importer) (import_at doc importer index) no_terms

-- the terms of a row's export; in a valid policy each row has one
abbrev pub terms_of : PolicyDoc → Row → ResponseTerms
terms_of doc row = terms_at doc row.importer row.index

-- ---- another policy

abbrev pub is_service : Kind → Bool
is_service Stream = false
is_service Service = true

abbrev pub same_template : Option (List ℕ) → Option (List ℕ) → Bool
same_template None None = true
same_template None (Some u) = false
same_template (Some t) None = false
same_template (Some t) (Some u) = bytes_eq t u

-- two imports of the same service: of one exporter and one subject, with the same text for `to`
abbrev pub is_same_service : ImportDoc → ImportDoc → Bool
is_same_service i j = is_service i.kind && is_service j.kind && bytes_eq i.account j.account && same_subject i.subject j.subject && same_template i.to j.to

abbrev pub new_row : PolicyDoc → Name → ℕ → NewRow
new_row doc importer index = record { index = index; terms = terms_at doc importer index }

abbrev pub renewed_in : PolicyDoc → Name → ImportDoc → NamedAccount → Option NewRow
renewed_in doc importer i a = option_map (new_row doc importer) (position (is_same_service i) a.account.imports)

abbrev pub renewed_for : PolicyDoc → Name → ImportDoc → Option NewRow
renewed_for doc importer i = option_and_then (renewed_in doc importer i) (find (has_name importer) doc.accounts)

-- the row of the second policy that a row of the first is again: the least one of the same importer that is of the same service
abbrev pub renewed : PolicyDoc → PolicyDoc → Row → Option NewRow
renewed old new row = option_and_then (renewed_for new row.importer) (import_at old row.importer row.index)

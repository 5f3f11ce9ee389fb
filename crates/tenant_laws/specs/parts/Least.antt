-- Rows of a policy that import the same service stand for each other: of such rows a route is on any, and moves to the least
-- (docs/GUARANTEE.md, "Response routes").
use Rattle.std.specs.Prelude.{◌≡◌, ℕ, Bool, List, Option, Some, None, IsSomeAnd, All, map}
use Rattle.policy_doc.specs.declared.exports.document.Kind.TheVariants.{Service}
use Rattle.policy_doc.specs.declared.exports.document.Row.{Row}
use Rattle.policy_doc.specs.Accounts.{Name}
use Rattle.policy_doc.specs.declared.document.ImportDoc.{ImportDoc}
use Rattle.policy_doc.specs.declared.document.PolicyDoc.{PolicyDoc}
use Rattle.service_exporter.specs.Routes.{Exporter, Numbered}
use Rattle.service_exporter.specs.declared.route.NewRow.{NewRow}
use Rattle.service_exporter.specs.declared.route.Route.{Route}
use Rattle.service_routes.specs.Routes.{each}
use Rattle.service_routes.specs.service_rows.Rows.{renewed, import_at, terms_of}
use Rattle.tenant_laws.specs.parts.Part.{exporters_of, part_of}

abbrev pub index_by : Option NewRow → ℕ → ℕ
index_by None index = index
index_by (Some new) index = new.index

-- the least row of the same service
abbrev pub least_row : PolicyDoc → Row → Row
least_row doc row = record { importer = row.importer; index = index_by (renewed doc doc row) row.index }

-- routes on the least rows
abbrev pub on_least : PolicyDoc → Route → Route
on_least doc r = record r { row = least_row doc r.row }

abbrev pub all_on_least : PolicyDoc → List Numbered → List Numbered
all_on_least doc rs = map (λ (r : Numbered). (r.0, on_least doc r.1)) rs

abbrev pub exporter_on_least : PolicyDoc → Exporter → Exporter
exporter_on_least doc e = record { last = e.last; routes = all_on_least doc e.routes }

abbrev pub exporters_on_least : PolicyDoc → List (Name × Exporter) → List (Name × Exporter)
exporters_on_least doc all = each (exporter_on_least doc) all

-- ---- laws

-- The row that another policy has again is the same for a row and for the least of the same service.
abbrev pub AgainByLeast : Type 0
AgainByLeast = (old new : PolicyDoc) (row : Row) → renewed old new (least_row old row) ≡ renewed old new row

-- A policy has each of its service rows again: the least of the same service, on the terms of the row.
abbrev pub HasItself : Type 0
HasItself = (doc : PolicyDoc) (row : Row) → IsSomeAnd (import_at doc row.importer row.index) (λ (i : ImportDoc). i.kind ≡ Service) →
    renewed doc doc row ≡ Some record { index = (least_row doc row).index; terms = terms_of doc row }

-- the least row of a row of one of the set's accounts is that of its part
abbrev pub LeastInPart : Type 0
LeastInPart = (K : Name → Bool) (doc : PolicyDoc) (all : List (Name × Exporter)) →
    All (λ (e : Name × Exporter). All (λ (r : Numbered). K r.1.row.importer ≡ K e.0) e.1.routes) all →
    exporters_of K (exporters_on_least doc all) ≡ exporters_on_least (part_of K doc) (exporters_of K all)

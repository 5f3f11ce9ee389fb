-- What always holds of the response routes of an exporter (docs/GUARANTEE.md, "What always holds").
use Rattle.std.specs.Prelude.{◌≡◌, ◌<◌, ◌≤◌, ◌-◌, ◌^◌, ℕ, List, true, length, All, AllPairs, IsSomeAnd}
use Rattle.policy_doc.specs.declared.exports.document.Kind.TheVariants.{Service}
use Rattle.policy_doc.specs.declared.exports.document.Row.{Row}
use Rattle.policy_doc.specs.declared.document.ImportDoc.{ImportDoc}
use Rattle.policy_doc.specs.declared.document.PolicyDoc.{PolicyDoc}
use Rattle.service_exporter.specs.Routes.{Exporter, Numbered, lives}
use Rattle.service_routes.specs.Routes.{Name}
use Rattle.service_routes.specs.service_rows.Rows.{import_at, terms_of}

-- the numbers rise
abbrev pub IsBefore : Numbered → Numbered → Type 0
IsBefore r s = r.0 < s.0

pub record AreRouted (now : ℕ) (e : Exporter) : Type 0 where
  -- no more than may live
  pub few : length e.routes ≤ 65536
  -- no number above 2^64 - 1 was given, and none stands above the last that was
  pub last : e.last ≤ 2 ^ 64 - 1
  pub given : All (λ (r : Numbered). r.0 ≤ e.last) e.routes
  pub rising : AllPairs IsBefore e.routes
  -- none is noted after the kept moment, and each lives at it
  pub past : All (λ (r : Numbered). r.1.noted ≤ now) e.routes
  pub living : All (λ (r : Numbered). lives now r.1 ≡ true) e.routes

-- ---- what the policy says of them

-- the row imports a service from the exporter
abbrev pub IsServiceRow : PolicyDoc → Name → Row → Type 0
IsServiceRow doc exporter row = IsSomeAnd (import_at doc row.importer row.index) (λ (i : ImportDoc). (i.kind ≡ Service) × (i.account ≡ exporter))

-- A route of an exporter's is for a request across a row of the policy.
pub record IsOfRow (doc : PolicyDoc) (exporter : Name) (r : Numbered) : Type 0 where
  -- its row imports a service from the exporter
  pub row : IsServiceRow doc exporter r.1.row
  -- and it has the terms of the row's export
  pub terms : r.1.terms ≡ terms_of doc r.1.row

-- each route of each exporter is so
abbrev pub EachRoute : (Name → Numbered → Type 0) → List (Name × Exporter) → Type 0
EachRoute IsSo all = All (λ (e : Name × Exporter). All (IsSo e.0) e.1.routes) all

-- Response routes, exporter by exporter (docs/GUARANTEE.md, "Response routes"; NATS documentation, "Multi Tenancy using
-- Accounts", services).
use Rattle.std.specs.Prelude.{◌+◌, ◌-◌, ◌++◌, ◌∷◌, ◌&&◌, ℕ, Bool, List, [], Option, Some, None, if◌then◌else◌, filter, not, nat_le}
use Rattle.std.specs.List.{filter_map}
use Rattle.std.specs.Option.{option_map}
use Rattle.subjects.specs.Subject.{Token}
use Rattle.service_exporter.specs.service_subjects.Names.{is_on}
use Rattle.policy_doc.specs.declared.exports.document.Row.{Row}
use Rattle.service_exporter.specs.declared.route.NewRow.{NewRow}
use Rattle.service_exporter.specs.declared.route.Route.{Route}

-- a route under its number
abbrev pub Numbered : Type 0
Numbered = ℕ × Route

pub record Exporter : Type 0 where
  -- the last number that it gave to a route, 0 before the first
  pub last : ℕ
  -- its routes by rising number
  pub routes : List Numbered

-- an exporter, and for how many more routes there is room, without more memory
pub record WithRoom : Type 0 where
  pub exporter : Exporter
  pub room : ℕ

-- one that has opened no route
abbrev pub no_routes : Exporter
no_routes = record { last = 0; routes = [] }

-- ---- life

-- a route lives while its age is at most what its terms give it; it has no age before it was noted
abbrev pub lives : ℕ → Route → Bool
lives now r = nat_le (now - r.noted) r.terms.ttl

abbrev pub living : ℕ → List Numbered → List Numbered
living now rs = filter (λ (r : Numbered). lives now r.1) rs

-- a route where it lives at a moment
abbrev pub if_lives : ℕ → Option Route → Option Route
if_lives now None = None
if_lives now (Some r) = if lives now r then Some r else None

-- the routes that live at a moment; the numbers that were given stay given
abbrev pub pruned_of : ℕ → Exporter → Exporter
pruned_of now e = record { last = e.last; routes = living now e.routes }

-- ---- changes

-- one route more, under the next number
abbrev pub with_route : Route → Exporter → Exporter
with_route r e = record { last = e.last + 1; routes = e.routes ++ (e.last + 1, r) ∷ [] }

-- the route of a subject, dead or alive
abbrev pub route_on : List Token → List Numbered → Option Route
route_on s [] = None
route_on s (r ∷ rs) = if is_on s r.0 r.1.word then Some r.1 else route_on s rs

-- a route ends by the first response on its subject, if it is for a single one
abbrev pub ends_by : List Token → Numbered → Bool
ends_by s r = r.1.terms.single && is_on s r.0 r.1.word

abbrev pub spent_of : List Token → Exporter → Exporter
spent_of s e = record { last = e.last; routes = filter (λ (r : Numbered). not (ends_by s r)) e.routes }

-- ---- another policy

-- a route on its row in another policy, on that row's terms
abbrev pub on_row : Route → NewRow → Route
on_row r new = record { word = r.word; row = record { importer = r.row.importer; index = new.index }; reply = r.reply; noted = r.noted; terms = new.terms }

abbrev pub kept_route : (Row → Option NewRow) → Numbered → Option Numbered
kept_route renewed r = option_map (λ new. (r.0, on_row r.1 new)) (renewed r.1.row)

-- the routes whose row the policy has again
abbrev pub kept_of : (Row → Option NewRow) → Exporter → Exporter
kept_of renewed e = record { last = e.last; routes = filter_map (kept_route renewed) e.routes }

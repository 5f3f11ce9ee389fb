-- Response routes, exporter by exporter (docs/GUARANTEE.md, "Response routes"; NATS documentation, "Multi Tenancy using
-- Accounts", services).
use Rattle.std.specs.Prelude.{◌∷◌, ℕ, Bool, List, [], Option, if◌then◌else◌, map, nat_eq, unwrap_or}
use Rattle.std.specs.Map.{lookup}
use Rattle.std.specs.Cmp.Lexicographic.{pointwise}
use Rattle.indexmap.specs.IndexMap.{insert_entry}
use Rattle.subjects.specs.Subject.{Token}
use Rattle.service_exporter.specs.Routes.{Exporter, kept_of, no_routes, pruned_of, spent_of, with_route}
use Rattle.service_exporter.specs.declared.route.NewRow.{NewRow}
use Rattle.service_exporter.specs.declared.route.Route.{Route}
use Rattle.policy_doc.specs.declared.exports.document.Row.{Row}

-- the bytes of an account's name
abbrev pub Name : Type 0
Name = List ℕ

abbrev pub same_name : Name → Name → Bool
same_name = pointwise nat_eq

pub record Table : Type 0 where
  -- the exporters that have opened a route, in the order of their first ones
  pub exporters : List (Name × Exporter)
  -- for how many routes of each there is room, without more memory; an exporter that has opened none may have room too
  pub rooms : List (Name × ℕ)

-- what an exporter has
abbrev pub exporter_of : Name → List (Name × Exporter) → Exporter
exporter_of name all = unwrap_or (lookup (same_name name) all) no_routes

-- for how many routes more of an exporter there is room
abbrev pub room_for : Name → Table → ℕ
room_for name t = unwrap_or (lookup (same_name name) t.rooms) 0

-- ---- changes

-- each exporter changed
abbrev pub each : (Exporter → Exporter) → List (Name × Exporter) → List (Name × Exporter)
each f all = map (λ (e : Name × Exporter). (e.0, f e.1)) all

-- one exporter changed, if it is there
abbrev pub changed : Name → (Exporter → Exporter) → List (Name × Exporter) → List (Name × Exporter)
changed name f [] = []
changed name f (e ∷ all) = if same_name name e.0 then (e.0, f e.1) ∷ all else e ∷ changed name f all

-- one route more of an exporter, under its next number
abbrev pub opened : Name → Route → List (Name × Exporter) → List (Name × Exporter)
opened name r all = insert_entry same_name all name (with_route r (exporter_of name all))

-- a response was published on a subject in an exporter's account
abbrev pub spent : Name → List Token → List (Name × Exporter) → List (Name × Exporter)
spent name s all = changed name (spent_of s) all

-- the routes that live at a moment
abbrev pub pruned : ℕ → List (Name × Exporter) → List (Name × Exporter)
pruned now all = each (pruned_of now) all

-- the routes whose rows another policy has again
abbrev pub kept : (Row → Option NewRow) → List (Name × Exporter) → List (Name × Exporter)
kept renewed all = each (kept_of renewed) all

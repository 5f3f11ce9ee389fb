-- The response routes that a publish opens, or the one that it ends (docs/GUARANTEE.md, "Response routes").
use Rattle.std.specs.Prelude.{◌≡◌, ◌≤◌, ◌<◌, ◌∷◌, ℕ, List, [], All, false, suc, if◌then◌else◌}
use Rattle.service_exporter.specs.Limit.{is_full}
use Rattle.service_exporter.specs.Routes.{Exporter}
use Rattle.service_routes.specs.Routes.{Name, Table, exporter_of, opened, room_for, same_name, spent}
use Rattle.world_views.specs.declared.changing.Opening.{Opening}
use Rattle.world_views.specs.declared.changing.RouteChange.{RouteChange}
use Rattle.world_views.specs.declared.changing.RouteChange.TheVariants.{Opened, Answered, AnsweredUnder}

-- routes are opened in turn
abbrev pub opened_each : List Opening → List (Name × Exporter) → List (Name × Exporter)
opened_each [] all = all
opened_each (o ∷ os) all = opened_each os (opened o.exporter o.route all)

-- routes are opened, or a response is published
abbrev pub changed_by : RouteChange → List (Name × Exporter) → List (Name × Exporter)
changed_by (Opened os) all = opened_each os.items all
changed_by (Answered exporter m) all = spent exporter m.subject all
changed_by (AnsweredUnder exporter s) all = spent exporter s all

-- each of them is noted at this moment
abbrev pub IsNotedAt : ℕ → Opening → Type 0
IsNotedAt now o = o.route.noted ≡ now

abbrev pub AreNoted : ℕ → RouteChange → Type 0
AreNoted now (Opened os) = All (IsNotedAt now) os.items
AreNoted now (Answered exporter m) = Unit {0}
AreNoted now (AnsweredUnder exporter s) = Unit {0}

-- how many of them are an exporter's
abbrev pub count_of : Name → List Opening → ℕ
count_of exporter [] = 0
count_of exporter (o ∷ os) = if same_name o.exporter exporter then suc (count_of exporter os) else count_of exporter os

-- each exporter has room for those that are its own, and has not as many as it may have with them
abbrev pub HaveRoom : ℕ → List Opening → Table → Type 0
HaveRoom now os t = (name : Name) → (count_of name os ≤ room_for name t) × (0 < count_of name os → is_full (count_of name os) now (exporter_of name t.exporters) ≡ false)

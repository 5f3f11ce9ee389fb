-- What is shown of the tables of exporters.
use Rattle.std.specs.Prelude.{◌≡◌, ◌+◌, ◌++◌, ℕ, List, Option, Some, None, map, take, drop}
use Rattle.std.specs.Map.{lookup}
use Rattle.service_exporter.specs.Routes.{Exporter, WithRoom}
use Rattle.service_routes.specs.Routes.{Name, each, same_name}

-- the exporters without their room
abbrev pub exporters_in : List (Name × WithRoom) → List (Name × Exporter)
exporters_in all = map (λ (e : Name × WithRoom). (e.0, e.1.exporter)) all

-- their rooms
abbrev pub rooms_in : List (Name × WithRoom) → List (Name × ℕ)
rooms_in all = map (λ (e : Name × WithRoom). (e.0, e.1.room)) all

-- the room of an exporter, if it is there
abbrev pub room_of : Option WithRoom → ℕ
room_of None = 0
room_of (Some e) = e.room

-- the room of an exporter, or of what stands ready for its first route
abbrev pub room_or : Option WithRoom → Option WithRoom → ℕ
room_or None ready = room_of ready
room_or (Some e) ready = e.room

abbrev pub room_in : Name → List (Name × WithRoom) → List (Name × WithRoom) → ℕ
room_in name exporters ready = room_or (lookup (same_name name) exporters) (lookup (same_name name) ready)

-- those before a place as they are, and the others changed by a function
abbrev pub so_far : (Exporter → Exporter) → ℕ → List (Name × Exporter) → List (Name × Exporter)
so_far f place all = take place all ++ each f (drop place all)

-- the one at a place is changed
abbrev pub IsChangedAt : (Exporter → Exporter) → ℕ → List (Name × WithRoom) → List (Name × WithRoom) → Type 0
IsChangedAt f place old new = so_far f (place + 1) (exporters_in new) ≡ so_far f place (exporters_in old)

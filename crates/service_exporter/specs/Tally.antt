-- What is known of how many routes live.
use Rattle.std.specs.Prelude.{◌≡◌, ◌≤◌, ◌+◌, ℕ, List, Option, length, if◌then◌else◌}
use Rattle.stores.specs.numbered_slots.Slots.{passes}
use Rattle.service_exporter.specs.Routes.{Numbered, living, lives}
use Rattle.service_exporter.specs.declared.tally.Tally.{Tally}
use Rattle.service_exporter.specs.declared.route.Route.{Route}

-- no more than `most` live at one moment, unless that is above 65,536, and no fewer than `least` at another
pub record IsTallied (t : Tally) (rs : List Numbered) : Type 0 where
  pub most : t.most ≤ 65536 → length (living t.since rs) ≤ t.most
  pub least : t.least ≤ length (living t.until rs)

-- where a route was taken out, if one was, at each moment one less lives if that lived
abbrev pub IsLeft : List Numbered → List Numbered → Option Route → Type 0
IsLeft was left ended = (t : ℕ) → length (living t was) ≡ length (living t left) + (if passes (lives t) ended then 1 else 0)

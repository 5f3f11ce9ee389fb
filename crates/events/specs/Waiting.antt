-- What waits for a session as one element, as the list of its deliveries (docs/GUARANTEE.md, "Delivery").
use Rattle.std.specs.Prelude.{List, [], ◌∷◌}
use Rattle.events.specs.declared.answer.Delivery.{Delivery}
use Rattle.events.specs.declared.waiting.Waiting.{Waiting}
use Rattle.events.specs.declared.waiting.Waiting.TheVariants as waiting

-- each of an element
abbrev pub each : Waiting → List Delivery
each (waiting.One d) = d ∷ []
each (waiting.Run run) = run.value

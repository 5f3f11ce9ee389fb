-- A message's event that is offered to a port (docs/GUARANTEE.md, "A connection").
use Rattle.std.specs.Prelude.{Result, Ok, Err}
use Rattle.events.specs.declared.event.Event.{Event}
use Rattle.events.specs.declared.answer.Entry.{Entry}
use Rattle.events.specs.declared.refusal.HubRefusal.{HubRefusal}
use Rattle.events.specs.declared.refusal.PublishRefusal.{PublishRefusal}
use Rattle.events.specs.declared.refusal.PublishRefusal.TheVariants.{By, Held}

-- it was submitted, once, and this came of it; or it is held back, and nothing was submitted
abbrev pub IsOffered : {P : Type 0} → (P → Event → Result Entry (Event × HubRefusal) → P → Type 0) → (P → P → Type 0)
    → P → Event → Result Entry (Event × PublishRefusal) → P → Type 0
IsOffered posts holds p e (Ok entry) p' = posts p e (Ok entry) p'
IsOffered posts holds p e (Err (back, By refusal)) p' = posts p e (Err (back, refusal)) p'
IsOffered posts holds p e (Err (back, Held)) p' = holds p p'

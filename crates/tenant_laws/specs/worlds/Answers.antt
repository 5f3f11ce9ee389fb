-- What tenants see of an answer.
use Rattle.std.specs.Prelude.{filter, map}
use Rattle.events.specs.declared.event.Command.{Command}
use Rattle.events.specs.declared.event.Command.TheVariants.{Connect, Sub, Unsub, Pub, Take, Close, Reload}
use Rattle.events.specs.declared.answer.Removed.{Removed}
use Rattle.events.specs.declared.answer.Outcome.{Outcome}
use Rattle.events.specs.declared.answer.Outcome.TheVariants.{Reloaded}
use Rattle.tenant_laws.specs.parts.Part.{part_of}
use Rattle.tenant_laws.specs.worlds.Tenants.{Tenants}

-- a command that isn't about one connection alone, a reload, is seen by the tenants as one of their part of the policy
abbrev pub part_of_command : Tenants → Command → Command
part_of_command t (Connect conn name password echo) = Connect conn name password echo
part_of_command t (Sub conn p queue sid) = Sub conn p queue sid
part_of_command t (Unsub conn sid most) = Unsub conn sid most
part_of_command t (Pub conn m word) = Pub conn m word
part_of_command t (Take conn most) = Take conn most
part_of_command t (Close conn) = Close conn
part_of_command t (Reload doc) = Reload (part_of t.accounts doc)

-- a removal without the number of its subscription
abbrev pub unnumbered_removal : Removed → Removed
unnumbered_removal r = record r { id = 0 }

-- an outcome as the tenants see it: of a reload what is told of their connections, numbers aside
abbrev pub seen_by : Tenants → Outcome → Outcome
seen_by t (Reloaded closed removed) = Reloaded (filter t.connections closed) (map unnumbered_removal (filter (λ (r : Removed). t.connections r.conn) removed))
seen_by t o = o

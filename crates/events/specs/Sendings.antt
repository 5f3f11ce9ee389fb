-- What a subscriber is sent: the published message, under the names of the view by which it is reached (docs/GUARANTEE.md,
-- "Delivery").
use Rattle.std.specs.Prelude.{List, Option, Some, None}
use Rattle.subjects.specs.Subject.{Token}
use Rattle.events.specs.Messages.{Message}
use Rattle.events.specs.declared.sent.Names.{Names}
use Rattle.events.specs.declared.sent.Said.{Said}
use Rattle.events.specs.declared.sent.Said.TheVariants.{AsPublished, Nothing, Other}

-- the subject to answer on that names say, where the published message has this one
abbrev pub said : Said → Option (List Token) → Option (List Token)
said AsPublished reply = reply
said Nothing reply = None
said (Other s) reply = Some s

-- the message under these names: its header block and its payload stay
abbrev pub named : Names → Message → Message
named n m = record m { subject = n.subject; reply = said n.reply m.reply }

-- the message as it was published, where there are no names
abbrev pub under : Option Names → Message → Message
under None m = m
under (Some n) m = named n m

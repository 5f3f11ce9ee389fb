-- Messages of a run on their way to one subscription, as deliveries (docs/GUARANTEE.md, "Delivery").
use Rattle.std.specs.Prelude.{ℕ, List, [], None}
use Rattle.wire_message.specs.Texts.{Texts}
use Rattle.messages.specs.Messages.{Message, message}
use Rattle.events.specs.declared.answer.Delivery.{Delivery}

-- one of them, under the subject that all of them are sent under
abbrev pub sent_as : Message → List ℕ → Texts → Delivery
sent_as m sid t = record { message = message m.subject None [] t.payload; sid = sid }

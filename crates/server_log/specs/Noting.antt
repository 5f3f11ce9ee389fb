-- What a connection's turn has that an operator is told (docs/OPERATING.md, "What the server tells").
use Rattle.std.specs.Prelude.{◌≡◌, ◌⊎◌, ◌+◌, ◌++◌, ◌∷◌, ◌&&◌, ◌||◌, [], Bool, true, false, Result, Ok, Err}
use Rattle.std.specs.List.{list_any}
use Rattle.std.specs.Io.Iter.{u64_saturate}
use Rattle.events.specs.declared.event.Event.{Event}
use Rattle.events.specs.declared.answer.Entry.{Entry}
use Rattle.events.specs.declared.answer.Item.{Item}
use Rattle.events.specs.declared.answer.Item.TheVariants.{RouteFull}
use Rattle.events.specs.declared.answer.Outcome.{Outcome}
use Rattle.events.specs.declared.answer.Outcome.TheVariants.{Connected, AuthViolation, Denied, Published, Taken, Closed}
use Rattle.events.specs.declared.refusal.HubRefusal.{HubRefusal}
use Rattle.events.specs.declared.refusal.HubRefusal.TheVariants.{NoSession}
use Rattle.events.specs.declared.refusal.PublishRefusal.{PublishRefusal}
use Rattle.events.specs.declared.refusal.PublishRefusal.TheVariants.{By, Held}
use Rattle.server_log.specs.declared.level.LogLevel.{LogLevel}
use Rattle.server_log.specs.declared.level.LogLevel.TheVariants as level
use Rattle.server_log.specs.declared.noted.Noted.{Noted}

-- ---- what is told

-- a server that tells something, and one that tells all
abbrev pub tells : LogLevel → Bool
tells level.None = false
tells level.Denials = true
tells level.All = true

abbrev pub tells_all : LogLevel → Bool
tells_all level.None = false
tells_all level.Denials = false
tells_all level.All = true

-- a request that found no response route at an exporter
abbrev pub is_full : Item → Bool
is_full (RouteFull row) = true
is_full _ = false

-- what is refused, who was too slow, who a client is, and, where all is told, that it has closed
abbrev pub is_noted : LogLevel → Outcome → Bool
is_noted l Connected = tells l
is_noted l AuthViolation = tells l
is_noted l (Denied verdict) = tells l
is_noted l (Taken deliveries missed) = missed && tells l
is_noted l (Published rule met) = tells l && list_any is_full met
is_noted l Closed = tells_all l
is_noted l _ = false

-- a reload has ended the session
abbrev pub is_gone : HubRefusal → Bool
is_gone NoSession = true
is_gone _ = false

-- ---- what is noted of an event

-- one more answer waits to be told, or one more found no room
abbrev pub IsAdded : Entry → Noted → Noted → Type 0
IsAdded entry before after =
    (after.is_gone ≡ before.is_gone)
    × (((after.answers.items ≡ before.answers.items ++ entry ∷ []) × (after.left_out ≡ before.left_out))
    ⊎ ((after.answers.items ≡ before.answers.items) × (after.left_out ≡ u64_saturate (before.left_out + 1))))

-- an answer that is told is added; of any other nothing is noted
abbrev pub IsAnswerNoted : Entry → Noted → Noted → Type 0
IsAnswerNoted entry before after =
    (after.level ≡ before.level)
    × (is_noted before.level entry.outcome ≡ true → IsAdded entry before after)
    × (is_noted before.level entry.outcome ≡ false → after ≡ before)

-- of a refusal it is noted that the session has gone, if it says so
abbrev pub noted_refusal : HubRefusal → Noted → Noted
noted_refusal refusal noted = record noted { is_gone = noted.is_gone || (is_gone refusal && tells noted.level) }

abbrev pub noted_stop : PublishRefusal → Noted → Noted
noted_stop (By refusal) noted = noted_refusal refusal noted
noted_stop Held noted = noted

-- what came of an event that was submitted, and of a message's event that was offered
abbrev pub IsNoted : Result Entry (Event × HubRefusal) → Noted → Noted → Type 0
IsNoted (Ok entry) before after = IsAnswerNoted entry before after
IsNoted (Err back) before after = after ≡ noted_refusal back.1 before

abbrev pub IsOfferNoted : Result Entry (Event × PublishRefusal) → Noted → Noted → Type 0
IsOfferNoted (Ok entry) before after = IsAnswerNoted entry before after
IsOfferNoted (Err back) before after = after ≡ noted_stop back.1 before

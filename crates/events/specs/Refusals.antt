-- What is said of a refusal.
use Rattle.std.specs.Prelude.{ℕ, List, codes}
use Rattle.events.specs.declared.refusal.HubRefusal.{HubRefusal}
use Rattle.events.specs.declared.refusal.HubRefusal.TheVariants.{HistoryFull, NoSession, SessionTaken, SessionLimit, NoMemory}

abbrev pub refusal_text : HubRefusal → List ℕ
refusal_text HistoryFull = codes "the history is full"
refusal_text NoSession = codes "the connection has no session"
refusal_text SessionTaken = codes "the connection has a session already"
refusal_text SessionLimit = codes "4096 sessions stand"
refusal_text NoMemory = codes "no memory"

-- What is counted of an account, of a worker, and of a turn of a connection (docs/OPERATING.md, "Numbers").
use Rattle.std.specs.Prelude.{◌≡◌, ◌⊎◌, ℕ, ◌+◌, ◌-◌, Bool, true, false, Option, Some, None, zero, suc, Result, Ok, Err, length}
use Rattle.std.specs.Io.Iter.{u64_saturate}
use Rattle.events.specs.Runs.{was_published}
use Rattle.events.specs.declared.event.Event.{Event}
use Rattle.events.specs.declared.answer.Entry.{Entry}
use Rattle.events.specs.declared.answer.Outcome.{Outcome}
use Rattle.events.specs.declared.answer.Outcome.TheVariants.{Connected, Taken}
use Rattle.events.specs.declared.refusal.HubRefusal.{HubRefusal}
use Rattle.events.specs.declared.refusal.PublishRefusal.{PublishRefusal}
use Rattle.events.specs.declared.run.RunEnd.{RunEnd}
use Rattle.events.specs.declared.run.RunEnd.TheVariants as run
use Rattle.server_stats.specs.declared.counts.AccountCounts.{AccountCounts}
use Rattle.server_stats.specs.declared.counts.WorkerCounts.{WorkerCounts}
use Rattle.server_stats.specs.declared.counts.TurnCounts.{TurnCounts}
use Rattle.server_stats.specs.declared.looks.SessionCounts.{SessionCounts}

-- ---- an account and a worker

abbrev pub no_counts : AccountCounts
no_counts = record { sessions = 0; subscriptions = 0; waiting = 0; received = 0; sent = 0; slow = 0 }

abbrev pub plus : AccountCounts → AccountCounts → AccountCounts
plus a b = record {
  sessions = u64_saturate (a.sessions + b.sessions);
  subscriptions = u64_saturate (a.subscriptions + b.subscriptions);
  waiting = u64_saturate (a.waiting + b.waiting);
  received = u64_saturate (a.received + b.received);
  sent = u64_saturate (a.sent + b.sent);
  slow = u64_saturate (a.slow + b.slow);
}

-- without what stands now
abbrev pub since_start : AccountCounts → AccountCounts
since_start a = record { sessions = 0; subscriptions = 0; waiting = 0; received = a.received; sent = a.sent; slow = a.slow }

abbrev pub no_others : WorkerCounts
no_others = record { held = 0; bytes = 0 }

abbrev pub added : WorkerCounts → WorkerCounts → WorkerCounts
added a b = record { held = u64_saturate (a.held + b.held); bytes = u64_saturate (a.bytes + b.bytes) }

abbrev pub one_if : Bool → ℕ
one_if true = 1
one_if false = 0

-- a connection that stands
abbrev pub of_connection : Bool → ℕ → WorkerCounts
of_connection held waiting = record { held = one_if held; bytes = waiting }

-- ---- a turn

abbrev pub no_turn : TurnCounts
no_turn = record { received = 0; sent = 0; slow = 0; connected = None }

-- what it adds to its account
abbrev pub of_turn : TurnCounts → AccountCounts
of_turn t = record { sessions = 0; subscriptions = 0; waiting = 0; received = t.received; sent = t.sent; slow = t.slow }

-- and what a session does that stands
abbrev pub of_session : SessionCounts → AccountCounts
of_session s = record { sessions = 1; subscriptions = s.subscriptions; waiting = s.waiting; received = 0; sent = 0; slow = 0 }

abbrev pub more_received : ℕ → TurnCounts → TurnCounts
more_received n c = record c { received = u64_saturate (c.received + n) }

-- a Take has given so many, and has said whether a message was missed
abbrev pub taken : ℕ → Bool → TurnCounts → TurnCounts
taken n missed c = record c { sent = u64_saturate (c.sent + n); slow = u64_saturate (c.slow + one_if missed) }

-- a CONNECT's answer is kept, if memory can be had for one more owner of it
abbrev pub IsConnectCounted : Entry → TurnCounts → TurnCounts → Type 0
IsConnectCounted entry before after = (after ≡ record before { connected = Some entry }) ⊎ (after ≡ record before { connected = None })

abbrev pub IsOutcomeCounted : Entry → Outcome → TurnCounts → TurnCounts → Type 0
IsOutcomeCounted entry Connected before after = IsConnectCounted entry before after
IsOutcomeCounted entry (Taken all missed) before after = after ≡ taken (length all) missed before
IsOutcomeCounted entry _ before after = after ≡ before

abbrev pub IsAnswerCounted : Entry → TurnCounts → TurnCounts → Type 0
IsAnswerCounted entry before after = IsOutcomeCounted entry entry.outcome before after

abbrev pub IsSubmitCounted : Result Entry (Event × HubRefusal) → TurnCounts → TurnCounts → Type 0
IsSubmitCounted (Ok entry) before after = IsAnswerCounted entry before after
IsSubmitCounted (Err back) before after = after ≡ before

-- a message that was published is one more
abbrev pub received_if : Bool → TurnCounts → TurnCounts
received_if true c = more_received 1 c
received_if false c = c

abbrev pub IsOfferCounted : Result Entry (Event × PublishRefusal) → TurnCounts → TurnCounts → Type 0
IsOfferCounted (Ok entry) before after = after ≡ received_if (was_published entry.outcome) before
IsOfferCounted (Err back) before after = after ≡ before

-- of so many messages that were offered all were published, but for the last, if it wasn't
abbrev pub published_if : Bool → ℕ → ℕ
published_if true n = n
published_if false n = n - 1

abbrev pub published_of : ℕ → RunEnd → ℕ
published_of n run.Published = n
published_of n (run.Answered entry) = published_if (was_published entry.outcome) n
published_of n (run.Stopped word refusal) = n - 1

abbrev pub after_end : ℕ → RunEnd → TurnCounts → TurnCounts
after_end n end c = more_received (published_of n end) c

-- a run of so many messages, of which so many are left; of none nothing is counted
abbrev pub IsRunCounted : ℕ → ℕ → RunEnd → TurnCounts → TurnCounts → Type 0
IsRunCounted zero left end old new = new ≡ old
IsRunCounted (suc n) left end old new = new ≡ after_end (suc n - left) end old

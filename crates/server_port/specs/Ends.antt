-- How a port ends a run of messages in a hold of the lock.
use Rattle.std.specs.Prelude.{◌≡◌, ◌⊎◌, ℕ, Bool, true, false, Some, Err}
use Rattle.events.specs.declared.event.Event.{Event}
use Rattle.events.specs.declared.refusal.HubRefusal.TheVariants.{HistoryFull}
use Rattle.events.specs.declared.refusal.PublishRefusal.TheVariants.{By}
use Rattle.events.specs.Runs.{was_published}
use Rattle.events.specs.declared.run.RunEnd.{RunEnd}
use Rattle.events.specs.declared.run.RunEnd.TheVariants as run
use Rattle.shared_waits.specs.runs.Runs.{Came, IsBack, told_end}
use Rattle.shared_hub.specs.Entering.{IsOfferedBy}

-- An event was offered once more, and the run ends with what came of it.
abbrev pub IsOfferedAgain : ℕ → Event → ℕ → RunEnd → ℕ → Type 0
IsOfferedAgain opening e before end after = (s : Came) × (end ≡ told_end (Some s)) × IsBack e s × IsOfferedBy opening before e s after

-- The run ends with what came of the last message that was offered; or, where that met a full history, with what came of it
-- once more.
abbrev pub IsEnded : ℕ → Came → ℕ → RunEnd → ℕ → Type 0
IsEnded opening r before end after =
    ((end ≡ told_end (Some r)) × (after ≡ before)) ⊎ ((e : Event) × (r ≡ Err (e, By HistoryFull)) × IsOfferedAgain opening e before end after)

-- whether those behind a hold's messages may be offered next
abbrev pub goes_on : RunEnd → Bool
goes_on run.Published = true
goes_on (run.Answered entry) = was_published entry.outcome
goes_on (run.Stopped word refusal) = false

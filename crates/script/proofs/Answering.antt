-- What a hub answers, where memory is enough.
use Rattle.std.proofs.Common.{◌≡◌, ◌∙◌, Result, Ok, Err, Bool, true, false, ap, sym}
use Rattle.world.specs.Transition.{IsRefusal}
use Rattle.hub.specs.History.{State, stepped, IsStep}
use Rattle.events.specs.declared.event.Event.{Event}
use Rattle.events.specs.declared.answer.Entry.{Entry}
use Rattle.events.specs.declared.answer.Outcome.{Outcome}
use Rattle.events.specs.declared.refusal.HubRefusal.{HubRefusal}
use Rattle.events.specs.declared.refusal.HubRefusal.TheVariants as refusal
use Rattle.session_conn.specs.Turns.{outcome_of, without_event}
use Rattle.script.specs.Server.{heard, by_step}

-- memory lacked for the hub
abbrev pub is_memory_answer : Result Outcome HubRefusal → Bool
is_memory_answer (Err refusal.NoMemory) = true
is_memory_answer _ = false

-- a refusal, by the step
by_refusal : (w : State) (t : Result (Entry × State) HubRefusal) (r : HubRefusal) → IsRefusal t r → is_memory_answer (Err r) ≡ false → (Err r, w) ≡ by_step w t
by_refusal w (Ok _) r h other = let memory : is_memory_answer (Err r) ≡ true = ap (λ (x : HubRefusal). is_memory_answer (Err x)) h in absurd (cc)
by_refusal w (Err e) r h other = ap (λ (x : HubRefusal). (Err x, w)) h

-- a step, memory apart
step_is : (w : State) (e : Event) (a : Result Entry (Event × HubRefusal)) (after : State) → IsStep w e a after → is_memory_answer (outcome_of (without_event a)) ≡ false →
    (outcome_of (without_event a), after) ≡ heard w e
unfolding heard
step_is w e (Ok a) after h other = sym (ap (by_step w) h)
step_is w e (Err refused) after h other =
    ap (λ (v : State). (Err refused.1, v)) h.1 ∙ by_refusal w (stepped w e) refused.1 h.2 other

-- what came of an event is what is heard of it
pub answered_is : (w : State) (e : Event) (a : Result Entry (Event × HubRefusal)) (r : Result Outcome HubRefusal) (after : State) → IsStep w e a after → r ≡ outcome_of (without_event a) → is_memory_answer r ≡ false →
    (r, after) ≡ heard w e
answered_is w e a r after h is other =
    ap (λ (x : Result Outcome HubRefusal). (x, after)) is ∙ step_is w e a after h (sym (ap is_memory_answer is) ∙ other)

-- Of what a client is told nothing.
use Rattle.std.proofs.Common.{◌≡◌, ◌∙◌, ◌&&◌, ℕ, List, [], Bool, true, false, not, Option, Result, Ok, Err, refl, ap}
use Rattle.wire_read.specs.declared.frame.Frame.{Frame}
use Rattle.events.specs.declared.answer.Outcome.{Outcome}
use Rattle.events.specs.declared.answer.Outcome.TheVariants as outcome
use Rattle.events.specs.declared.refusal.HubRefusal.{HubRefusal}
use Rattle.events.specs.declared.refusal.HubRefusal.TheVariants as refusal
use Rattle.session_plan.specs.declared.stage.Stage.{Stage}
use Rattle.session_plan.specs.declared.stage.Stage.TheVariants as stage
use Rattle.session_plan.specs.Replies.{told_text, ok_if}
use Rattle.session_conn.specs.declared.turn.FrameTurn.{FrameTurn}
use Rattle.session_conn.specs.declared.turn.FrameTurn.TheVariants as turn
use Rattle.session_conn.specs.Turns.{Turned, Goes, Stalls, turn_after, is_verbose, is_published, is_quiet, IsFrameTurned}

-- a client that asked for no answer has none
no_answer : (s : Stage) → is_verbose s ≡ false → ok_if s ≡ []
no_answer stage.Fresh e = refl
no_answer (stage.Connected false headers) e = refl
no_answer (stage.Connected true headers) e = absurd (cc)
no_answer (stage.Closed session) e = refl

-- what is told of a message that is published
told_published : (s : Stage) (f : Frame) (word : Option ℕ) (r : Result Outcome HubRefusal) → is_published r ≡ true →
    turn_after s s f word r ≡ Goes (told_text (ok_if s) s)
told_published s f word (Ok (outcome.Published by met)) e = refl
told_published s f word (Ok outcome.Connected) e = absurd (cc)
told_published s f word (Ok outcome.AuthViolation) e = absurd (cc)
told_published s f word (Ok outcome.Subscribed) e = absurd (cc)
told_published s f word (Ok outcome.SameSid) e = absurd (cc)
told_published s f word (Ok outcome.SubLimit) e = absurd (cc)
told_published s f word (Ok (outcome.Denied verdict)) e = absurd (cc)
told_published s f word (Ok (outcome.Taken deliveries missed)) e = absurd (cc)
told_published s f word (Ok outcome.Unsubscribed) e = absurd (cc)
told_published s f word (Ok outcome.Closed) e = absurd (cc)
told_published s f word (Ok (outcome.Reloaded gone removed)) e = absurd (cc)
told_published s f word (Err refusal.NoMemory) e = absurd (cc)
told_published s f word (Err refusal.HistoryFull) e = absurd (cc)
told_published s f word (Err refusal.NoSession) e = absurd (cc)
told_published s f word (Err refusal.SessionTaken) e = absurd (cc)
told_published s f word (Err refusal.SessionLimit) e = absurd (cc)

-- nothing is told of a message that is published where no answer was asked for
quiet_both : (s : Stage) (f : Frame) (word : Option ℕ) (r : Result Outcome HubRefusal) (verbose : Bool) → is_verbose s ≡ verbose →
    not verbose && is_published r ≡ true → turn_after s s f word r ≡ Goes (told_text [] s)
quiet_both s f word r true v e = absurd (cc)
quiet_both s f word r false v e = told_published s f word r e ∙ ap (λ (text : List ℕ). Goes (told_text text s)) (no_answer s v)

pub told_nothing : (s : Stage) (f : Frame) (word : Option ℕ) (r : Result Outcome HubRefusal) → is_quiet s r ≡ true →
    turn_after s s f word r ≡ Goes (told_text [] s)
told_nothing s f word r = quiet_both s f word r (is_verbose s) refl

-- what a turn comes to is also what follows of it
pub turned_so : (A B : Turned → Type 0) (r : FrameTurn) (before after : List ℕ) → ((t : Turned) → A t → B t) → IsFrameTurned A r before after → IsFrameTurned B r before after
turned_so A B (turn.Goes s) before after so h = (h.0, so (Goes (told_text h.0 s)) h.1, h.2)
turned_so A B (turn.Stalls stall word) before after so h = (so (Stalls stall word) h.0, h.1)

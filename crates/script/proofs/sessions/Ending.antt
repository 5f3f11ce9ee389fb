-- Where the end leads, and what others do.
use Rattle.std.proofs.Common.{rules, ◌≡◌, ◌∙◌, ◌∷◌, [], ℕ, List, Bool, true, false, Option, None, Result, Ok, Err, ap, refl, sym, subst}
use Rattle.std.proofs.lemmas.List.{append-nil}
use Rattle.wire_read.specs.declared.frame.Frame.{Frame}
use Rattle.hub.specs.History.{State, IsStep}
use Rattle.events.specs.declared.event.Event.{Event}
use Rattle.events.specs.declared.event.Command.TheVariants as command
use Rattle.events.specs.declared.answer.Outcome.{Outcome}
use Rattle.events.specs.declared.answer.Outcome.TheVariants as outcome
use Rattle.events.specs.declared.refusal.HubRefusal.{HubRefusal}
use Rattle.events.specs.declared.refusal.HubRefusal.TheVariants as refusal
use Rattle.session_plan.specs.declared.stage.Stage.{Stage}
use Rattle.session_plan.specs.declared.stage.Stage.TheVariants as stage
use Rattle.session_conn.specs.declared.output.Output.{Output}
use Rattle.session_conn.specs.declared.output.Stall.{Stall}
use Rattle.session_plan.specs.Replies.{told_text, is_closed, closed_from}
use Rattle.session_conn.specs.Turns.{Steps, Draws, event, IsAnswered}
use Rattle.session_conn.specs.Calls.{Connection, Given, given, nothing, stage_closed, IsQuiet, IsClosing, IsEnded}
use Rattle.script.specs.sessions.Happenings.{Ended, Other, Submitted, came, come_of_end}
use Rattle.script.specs.sessions.Accounts.{Call, Moment, IsPortTo, IsStepped, IsLeft}
use Rattle.script.proofs.sessions.Leading.{Place, Leads, leads_as, stepped-nil, or_false, one_happening}
use Rattle.script.proofs.sessions.Concluding.{of_hub, stepped-one}
use Rattle.script.proofs.sessions.Calling.{place_of, IsBetween, ReadsOn, reads_none, IsCallTo}

-- ---- the end

-- where the end leads
record IsEndedTo (conn now : ℕ) (a : Place) (s : Stage) (hub : State) : Type 0 where
  answer : Result Outcome HubRefusal
  leads : Leads conn a (Ended now answer ∷ []) [] [] [] (record a { stage = s; hub = hub })
  closed : is_closed s ≡ true

end_leads : (conn now : ℕ) (a : Place) (s : Stage) (hub : State) (r : Result Outcome HubRefusal) (submitted : List Submitted) →
    come_of_end conn now r (closed_from a.stage) ≡ came (told_text [] s) submitted [] → IsStepped submitted a.hub hub →
    Leads conn a (Ended now r ∷ []) [] [] [] (record a { stage = s; hub = hub })
end_leads conn now a s hub r submitted is stepped = one_happening a (Ended now r) is (search rules) refl stepped (append-nil a.owed) (or_false a.missed)

closed_after : (r : Result Outcome HubRefusal) → is_closed (stage_closed r) ≡ true
closed_after (Err refusal.NoSession) = refl
closed_after (Err x) = refl
closed_after (Ok o) = refl

quiet_end : {P : Type 0} (hub_of : P → State) (conn now : ℕ) (a : Place) (p : P) (s : Stage) (st : Option Stall) (p' : P) →
    hub_of p ≡ a.hub → closed_from a.stage ≡ stage.Closed false → IsQuiet (stage.Closed false) p s st p' → IsEndedTo conn now a s (hub_of p')
quiet_end hub_of conn now a p s st p' at from h = record {
  answer = Ok outcome.Closed;
  leads = end_leads conn now a s (hub_of p') (Ok outcome.Closed) []
      (ap (come_of_end conn now (Ok outcome.Closed)) from ∙ ap (λ (x : Stage). came (told_text [] x) [] []) (sym h.stage)) (stepped-nil a.hub (hub_of p') (ap hub_of h.port ∙ at));
  closed = ap is_closed h.stage;
}

close_end : {P : Type 0} (steps : Steps P) (hub_of : P → State) → IsPortTo steps hub_of →
    (conn now : ℕ) (a : Place) (p : P) (s : Stage) (p' : P) (r : Result Outcome HubRefusal) →
    hub_of p ≡ a.hub → closed_from a.stage ≡ stage.Closed true → IsAnswered steps.step p (event now (command.Close conn)) r p' → s ≡ stage_closed r →
    IsEndedTo conn now a s (hub_of p')
close_end steps hub_of port conn now a p s p' r at from step is = record {
  answer = r;
  leads = end_leads conn now a s (hub_of p') r ((event now (command.Close conn), r) ∷ [])
      (ap (come_of_end conn now r) from ∙ ap (λ (x : Stage). came (told_text [] x) ((event now (command.Close conn), r) ∷ []) []) (sym is))
      (stepped-one a.hub (hub_of p') (event now (command.Close conn)) r
      (subst (λ (x : State). IsAnswered IsStep x (event now (command.Close conn)) r (hub_of p')) at (of_hub steps.step hub_of port.step step)));
  closed = ap is_closed is ∙ closed_after r;
}

end_by : {P : Type 0} (steps : Steps P) (hub_of : P → State) → IsPortTo steps hub_of →
    (conn now : ℕ) (a : Place) (p : P) (s : Stage) (st : Option Stall) (p' : P) (from : Stage) →
    hub_of p ≡ a.hub → a.stage ≡ from → IsClosing steps now conn (closed_from from) p s st p' → IsEndedTo conn now a s (hub_of p')
end_by steps hub_of port conn now a p s st p' stage.Fresh at is h = quiet_end hub_of conn now a p s st p' at (ap closed_from is) h
end_by steps hub_of port conn now a p s st p' (stage.Closed false) at is h = quiet_end hub_of conn now a p s st p' at (ap closed_from is) h
end_by steps hub_of port conn now a p s st p' (stage.Closed true) at is h = close_end steps hub_of port conn now a p s p' h.0 at (ap closed_from is) h.1 h.2
end_by steps hub_of port conn now a p s st p' (stage.Connected verbose headers) at is h = close_end steps hub_of port conn now a p s p' h.0 at (ap closed_from is) h.1 h.2

all_left : (b : Bool) (left : List Frame) (spare : Option ℕ) → b ≡ true → IsLeft b left spare [] None
all_left true left spare h = (refl, refl)
all_left false left spare h = absurd (cc)

pub ended_to : {P W : Type 0} (steps : Steps P) (draws : Draws W) (hub_of : P → State) → IsPortTo steps hub_of →
    (conn now : ℕ) (m : Moment) (left : List Frame) (spare : Option ℕ) (p : P) (o : Output) (p' : P) (m' : Moment) →
    IsBetween conn m.at left spare → hub_of p ≡ m.hub → m'.hub ≡ hub_of p' → IsEnded steps now m.at p o m'.at p' →
    IsCallTo draws conn (Call.Ends now) m left spare (given o) m'
ended_to steps draws hub_of port conn now m left spare p o p' m' between before after h =
    let c : Connection = m.at in
    let to : IsEndedTo conn now (place_of m left spare) m'.at.stage (hub_of p') = end_by steps hub_of port conn now (place_of m left spare) p m'.at.stage o.stall p' c.stage before refl
    (subst (λ (n : ℕ). IsClosing steps now n (closed_from c.stage) p m'.at.stage o.stall p') between.same h.closing) in
    record {
      happened = Ended now to.answer ∷ [];
      arrived = [];
      left' = left;
      spare' = spare;
      drawn = [];
      words = refl;
      leads = leads_as refl h.bytes
          (λ i. record { stage = m'.at.stage; left = left; spare = spare; owed = (h.same i).owed; missed = (h.same i).missed; hub = after i }) to.leads;
      between = subst (λ (x : Connection). IsBetween conn x left spare) (sym h.same) (record {
        same = between.same;
        standing = record { waits = all_left (is_closed m'.at.stage) left spare to.closed; first = refl; rests = λ _. refl; wordless = between.standing.wordless };
      });
      part = (to.answer, refl);
      closes = h.close;
      reads = subst (ReadsOn c.reader [] []) (ap (λ (x : Connection). x.reader) (sym h.same)) (reads_none c.reader);
    }

-- ---- others

pub other_to : {W : Type 0} (draws : Draws W) (conn : ℕ) (e : Event) (m : Moment) (left : List Frame) (spare : Option ℕ) (g : Given) (m' : Moment) (r : Result Outcome HubRefusal) →
    IsBetween conn m.at left spare → g ≡ nothing false None → IsAnswered IsStep m.hub e r m'.hub → m'.at ≡ m.at →
    IsCallTo draws conn (Call.Others e) m left spare g m'
other_to draws conn e m left spare g m' r between gives step at = record {
  happened = Other e r ∷ [];
  arrived = [];
  left' = left;
  spare' = spare;
  drawn = [];
  words = refl;
  leads = leads_as refl (ap (λ (x : Given). x.bytes) gives) (λ i. place_of (record { at = at i; hub = m'.hub }) left spare)
      (one_happening (place_of m left spare) (Other e r) {s = m.at.stage} refl (search rules) refl (stepped-one m.hub m'.hub e r step) (append-nil m.at.owed) (or_false m.at.missed));
  between = subst (λ (c : Connection). IsBetween conn c left spare) (sym at) between;
  part = (r, refl);
  closes = ap (λ (x : Given). x.close) gives;
  reads = subst (λ (c : Connection). ReadsOn m.at.reader [] [] c.reader) (sym at) (reads_none m.at.reader);
}

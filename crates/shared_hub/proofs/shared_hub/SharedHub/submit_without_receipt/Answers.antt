-- who is let on stands behind what was noted before; an answer has the event, and is one more of the seat's
use Rattle.std.proofs.Common.{◌≡◌, ◌≤◌, ◌+◌, ◌∙◌, ◌++◌, [], ℕ, List, Result, Ok, Err, IfOk, OnErr, append-nil, sym}
use Rattle.std.specs.Prelude.{MatchResult}
use Rattle.events.specs.declared.event.Event.{Event}
use Rattle.events.specs.declared.answer.Entry.{Entry}
use Rattle.events.specs.declared.refusal.HubRefusal.{HubRefusal}
use Rattle.hub.specs.Guarantee.{KeepsGuarantee}
use Rattle.hub.specs.History.{State, IsStep}
use Rattle.shared_hub.specs.desk.Entering.{IsHub}
use Rattle.shared_hub.specs.Entering.{IsAnswered, IsLonger}
use Rattle.shared_hub.proofs.shared_hub.SharedHub.submit_without_receipt.Goals as goal

longer : {A B : Type 0} (r : Result A B) (freed : A → List ℕ) (before after : List ℕ)
    → IfOk r (λ a. after ≡ before ++ freed a) → OnErr r (after ≡ before) → IsLonger before after
longer (Ok a) freed before after ok err = (freed a, ok)
longer (Err e) freed before after ok err = ([], err ∙ sym (append-nil before))

pub returns-clause-freed : goal.returns-clause-freed
returns-clause-freed g c =
    longer c.step.result _ c.args.told.now.freed.items c.step.new.told.freed.items c.step.ensures.freed c.step.ensures.none

answered : (opening before after : ℕ) (s t : State) (e : Event) (r : Result Entry (Event × HubRefusal)) → IsHub s → IsStep s e r t → KeepsGuarantee s e r t
    → MatchResult r (λ _. after ≡ before + 1) (λ _. after ≡ before) → IfOk r (λ a. opening + after ≤ a.number) → IsAnswered opening before e r after
answered opening before after s t e (Ok a) hub step guarantee counted number =
    ((guarantee.event, counted, number), record { before = s; after = t; hub = hub; step = step; guarantee = guarantee })
answered opening before after s t e (Err (back, refusal)) hub step guarantee counted number =
    (step.0, counted, record { before = s; after = t; hub = hub; step = step; guarantee = guarantee })

pub returns-clause-answered : goal.returns-clause-answered
returns-clause-answered g c =
    answered g.L.Run.opening c.args.seat.now.count c.step.new.seat.count c.deref_mut.result.now.hub c.step.new.self.hub c.args.event c.step.result
    c.step.ensures.hub c.step.ensures.step c.step.ensures.guarantee c.step.ensures.count c.step.ensures.number

pub returns-clause-told : goal.returns-clause-told
returns-clause-told g c = record {
  before = c.deref_mut.result.now.hub;
  after = c.step.new.self.hub;
  waits = c.deref_mut.result.now.waits;
  left = c.step.new.self.waits;
  hub = c.step.ensures.hub;
  step = c.step.ensures.step;
  settled = c.step.ensures.settled;
  freed = c.step.ensures.freed;
  rest = c.step.ensures.rest;
  same = c.step.ensures.same;
  none = c.step.ensures.none;
  until = c.step.ensures.until;
}

-- the receipt is that of the desk's step
use Rattle.std.proofs.Common.{◌≡◌, ◌≤◌, ◌+◌, ℕ, Result, Ok, Err, IfOk}
use Rattle.std.specs.Prelude.{MatchResult}
use Rattle.events.specs.declared.event.Event.{Event}
use Rattle.events.specs.declared.refusal.HubRefusal.{HubRefusal}
use Rattle.hub.specs.Guarantee.{IsRouted}
use Rattle.hub.specs.History.{State}
use Rattle.shared_waits.specs.receipts.Receipts.{Receipt}
use Rattle.shared_hub.specs.desk.Entering.{IsHub, IsEntered}
use Rattle.shared_hub.specs.Entering.{IsSubmitted}
use Rattle.shared_hub.proofs.shared_hub.SharedHub.submit_with_receipt.Goals as goal

submitted : (opening before after : ℕ) (s t : State) (e : Event) (r : Result Receipt (Event × HubRefusal)) → IsHub s → IsEntered s e r t → IfOk r (λ x. IsRouted s e x.entry t)
    → MatchResult r (λ _. after ≡ before + 1) (λ _. after ≡ before) → IfOk r (λ x. opening + after ≤ x.entry.number) → IsSubmitted opening before e r after
submitted opening before after s t e (Ok r) hub entered routed counted number =
    ((routed.event, counted, number), record { before = s; after = t; hub = hub; entered = entered; guarantee = routed })
submitted opening before after s t e (Err (back, refusal)) hub entered routed counted number =
    (entered.0, counted, record { before = s; after = t; hub = hub; entered = entered; guarantee = routed })

pub returns-clause-submitted : goal.returns-clause-submitted
returns-clause-submitted g c =
    submitted g.L.Run.opening c.args.seat.now.count c.step_with_receipt.new.seat.count c.deref_mut.result.now.hub c.step_with_receipt.new.self.hub c.args.event c.step_with_receipt.result
    c.step_with_receipt.ensures.hub c.step_with_receipt.ensures.entered c.step_with_receipt.ensures.guarantee c.step_with_receipt.ensures.count c.step_with_receipt.ensures.number

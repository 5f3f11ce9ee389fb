-- A message that is offered, by the waits as they were before its publisher was taken out.
use Rattle.std.proofs.Common.{◌≡◌, ◌∙◌, ◌≢◌, ℕ, List, [], Option, Result, Err, ap, sym, subst}
use Rattle.events.specs.declared.event.Event.{Event}
use Rattle.events.specs.declared.event.Command.{Command}
use Rattle.events.specs.declared.answer.Entry.{Entry}
use Rattle.events.specs.declared.refusal.PublishRefusal.{PublishRefusal}
use Rattle.events.specs.declared.refusal.PublishRefusal.TheVariants.{By, Held}
use Rattle.events.specs.Offers.{IsOffered}
use Rattle.world_sessions.specs.leniency.Held.{Terms}
use Rattle.world.specs.Transition.{IsRefusal}
use Rattle.hub.specs.History.{State, stepped}
use Rattle.hub.specs.Holding.{IsStepIf}
use Rattle.hub.specs.Sound.{IsSound}
use Rattle.hub.specs.Guarantee.{KeepsGuarantee}
use Rattle.hub.proofs.Guaranteed.{guaranteed}
use Rattle.shared_waits.specs.Waiting.{Waiting, is_out_with}
use Rattle.shared_hub.specs.desk.Bounds.{size_of, room_beside, terms_at}
use Rattle.shared_hub.specs.desk.Waits.{offered, IfBy}

-- who waits says nothing of whose patience is out
pub as_before : (w out : Waiting) (s same : State) (e : Event) (capacity size : ℕ) (room : Option ℕ) (r : Result Entry (Event × PublishRefusal)) (held : List ℕ) (after : State)
    → out ≡ offered e.what w → same ≡ s → capacity ≡ same.world.capacity → size ≡ size_of e.what → room ≡ room_beside capacity size
    → IsStepIf (record { lets = is_out_with out e.now; room = room }) same e r held after → IsStepIf (terms_at w s e) s e r held after
as_before w out s same e capacity size room r held after waits hub holds weighs beside h =
    let P : Option ℕ → Type 0 = λ x. IsStepIf (record { lets = is_out_with out e.now; room = x }) same e r held after in
    let Q : State → Type 0 = λ x. IsStepIf (terms_at out x e) x e r held after in
    let R : Waiting → Type 0 = λ x. IsStepIf (terms_at x s e) s e r held after in
    let is = beside ∙ ap (λ (n : ℕ). room_beside n size) holds ∙ ap (λ (n : ℕ). room_beside same.world.capacity n) weighs in
    subst R waits (subst Q hub (subst P is h))

-- a message that is held back stays so, or is refused where there is no memory for its publisher
pub held_step : (t : Terms) (s after new : State) (e back : Event) (held list : List ℕ) (q : PublishRefusal)
    → IsStepIf t s e (Err (back, Held)) held after → new ≡ after → list ≡ held → IfBy q (IsRefusal (stepped after back)) → IsStepIf t s e (Err (back, q)) list new
held_step t s after new e back held list (By r) h hub same due =
    let P : State → Type 0 = λ x. IsRefusal (stepped x back) r in
    let Q : Event → Type 0 = λ y. IsRefusal (stepped s y) r in
    (h.0, hub ∙ h.1, subst Q h.0 (subst P h.1 due))
held_step t s after new e back held list Held h hub same due =
    let N : List ℕ → Type 0 = λ l. l ≢ [] in
    (h.0, hub ∙ h.1, h.2, subst N (sym same) h.3, same ∙ h.4)

-- it keeps the guarantee
pub held_guaranteed : (t : Terms) (s new : State) (e back : Event) (list : List ℕ) (q : PublishRefusal) → IsSound s.world → IsStepIf t s e (Err (back, q)) list new
    → IsOffered KeepsGuarantee (λ (a b : State). b ≡ a) s e (Err (back, q)) new
held_guaranteed t s new e back list (By r) sound h = guaranteed s e (Err (back, r)) new sound h tt
held_guaranteed t s new e back list Held sound h = h.1

-- a message that isn't entered is handed back
pub handed_back : (t : Terms) (s : State) (e : Event) (refused : Event × PublishRefusal) (held : List ℕ) (after : State) → IsStepIf t s e (Err refused) held after → refused.0 ≡ e
handed_back t s e (back, By r) held after h = h.0
handed_back t s e (back, Held) held after h = h.0

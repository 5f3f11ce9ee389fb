-- How a legal run goes on, and what a step leaves of what every hub keeps.
use Rattle.std.proofs.Common.{◌≡◌, ◌∙◌, ◌≤◌, ◌||◌, ℕ, Bool, true, false, cond, List, [], ◌∷◌, ◌++◌, length, Result, Ok, Err, ap, sym, refl, subst, arith}
use Rattle.std.specs.Prelude.{nat_le}
use Rattle.std.proofs.lemmas.Bool.{leb-false}
use Rattle.std.proofs.lemmas.List.{length-append}
use Rattle.events.specs.Offers.{IsOffered}
use Rattle.events.specs.declared.event.Event.{Event}
use Rattle.events.specs.declared.answer.Entry.{Entry}
use Rattle.events.specs.declared.answer.Outcome.{Outcome}
use Rattle.events.specs.declared.refusal.HubRefusal.{HubRefusal}
use Rattle.events.specs.declared.refusal.HubRefusal.TheVariants.{HistoryFull}
use Rattle.events.specs.declared.refusal.PublishRefusal.{PublishRefusal}
use Rattle.events.specs.declared.refusal.PublishRefusal.TheVariants.{By, Held}
use Rattle.world_sessions.specs.leniency.Held.{Terms, to_all}
use Rattle.world.specs.World.{World}
use Rattle.world.specs.Transition.{transition, entry_of, IsReasoned, IsRefusal}
use Rattle.world.specs.Holding.{IsAppliedIf}
use Rattle.world.proofs.Applied.{none_holds_back}
use Rattle.hub.specs.Sound.{IsSound}
use Rattle.hub.specs.History.{State, is_history_full, remembered, IsStep, IsEntry, IsLegalRun}
use Rattle.hub.specs.Holding.{IsStepIf}
use Rattle.hub.specs.Segments.{IsReached}
use Rattle.hub.specs.Guarantee.{KeepsGuarantee}
use Rattle.hub.proofs.Guaranteed.{IsMoved, moved-by, guaranteed}

-- one more entry
legal-push : (w : World) (es : List Entry) (mid : World) (e : Entry) (next : World) → IsLegalRun w es mid → IsEntry mid e next → IsLegalRun w (es ++ e ∷ []) next
unfolding IsLegalRun
legal-push w [] mid e next run is = (next, subst (λ (v : World). IsEntry v e next) run is, refl)
legal-push w (x ∷ es) mid e next run is = (run.0, run.1, legal-push run.0 es mid e next run.2 is)

-- a hub by its parts
abbrev pub state_of : World → World → ℕ → List Entry → State
state_of opening w most es = record { world = w; opening = opening; most = most; entries = es }

-- an answered step, by what it was made of
pub record IsEntered (opening : World) (w : World) (most : ℕ) (es : List Entry) (e : Event) (a : Entry) (after : World) (entries : List Entry) : Type 0 where
  pub sound : IsSound w
  pub reached : IsReached opening
  pub run : IsLegalRun opening es w
  pub room : is_history_full (state_of opening w most es) ≡ false
  pub step : transition w e ≡ Ok (a.outcome, after)
  pub answer : a ≡ entry_of a.outcome after e
  pub reason : IsReasoned w e.what a.outcome
  pub entered : entries ≡ es ++ a ∷ []

moved-is : (opening : World) (w : World) (most : ℕ) (es : List Entry) (e : Event) (a : Entry) (after : World) (entries : List Entry) → IsEntered opening w most es e a after entries → IsMoved w e a.outcome after
moved-is opening w most es e a after entries is = moved-by w e a.outcome after is.sound is.step is.reason

-- the answer is an entry from the world before to the world after
entry-is : (w : World) (e : Event) (a : Entry) (after : World) → IsMoved w e a.outcome after → transition w e ≡ Ok (a.outcome, after) → a ≡ entry_of a.outcome after e → IsEntry w a after
entry-is w e a after m step answer = record {
  outcome = ap (λ (b : Entry). transition w b.event) answer ∙ step;
  number = ap (λ (b : Entry). b.number) answer ∙ ap (λ (v : World). v.number) m.others;
  epoch = ap (λ (b : Entry). b.epoch) answer;
}

-- where the history is not full there is room for one more
no-or : (a b : Bool) → (a || b) ≡ false → a ≡ false
no-or true b h = absurd (cc)
no-or false b h = refl

room-left : (most : ℕ) (es : List Entry) (x : Entry) → nat_le most (length es) ≡ false → length (es ++ x ∷ []) ≤ most
room-left most es x room = omega (arith, length-append es (x ∷ []), leb-false most (length es) room)

-- what every hub keeps, stays
pub kept-step : (opening : World) (w : World) (most : ℕ) (es : List Entry) (e : Event) (a : Entry) (after : World) (entries : List Entry) → IsEntered opening w most es e a after entries →
    IsSound after × IsLegalRun opening entries after × (length entries ≤ most) × IsReached opening
kept-step opening w most es e a after entries is =
    let m = moved-is opening w most es e a after entries is in (
      m.sound,
      subst (λ (l : List Entry). IsLegalRun opening l after) (sym is.entered)
          (legal-push opening es w a after is.run (entry-is w e a after m is.step is.answer)),
      subst (λ (l : List Entry). length l ≤ most) (sym is.entered) (room-left most es a (no-or _ _ is.room)),
      is.reached,
    )

-- it is the step of the state
pub entered-step : (opening : World) (w : World) (most : ℕ) (es : List Entry) (e : Event) (a : Entry) (after : World) (entries : List Entry) → IsEntered opening w most es e a after entries →
    IsStep (state_of opening w most es) e (Ok a) (state_of opening after most entries)
entered-step opening w most es e a after entries is =
    let s = state_of opening w most es in
    ap (λ (b : Bool). cond b (Err HistoryFull) (remembered s e (transition w e))) is.room
    ∙ ap (remembered s e) is.step
    ∙ ap (λ (b : Entry). Ok (b, record s { world = after; entries = es ++ b ∷ [] })) (sym is.answer)
    ∙ ap (λ (l : List Entry). Ok (a, state_of opening after most l)) (sym is.entered)

-- and keeps the guarantee
pub entered-guaranteed : (opening : World) (w : World) (most : ℕ) (es : List Entry) (e : Event) (a : Entry) (after : World) (entries : List Entry) → IsEntered opening w most es e a after entries →
    KeepsGuarantee (state_of opening w most es) e (Ok a) (state_of opening after most entries)
entered-guaranteed opening w most es e a after entries is =
    guaranteed (state_of opening w most es) e (Ok a) (state_of opening after most entries) is.sound (entered-step opening w most es e a after entries is) is.reason

-- ---- a refused step

-- what the tables refuse, the state refuses
remembered-refusal : (s : State) (e : Event) (t : Result (Outcome × World) HubRefusal) (refusal : HubRefusal) → IsRefusal t refusal → IsRefusal (remembered s e t) refusal
remembered-refusal s e (Ok done) refusal is = is
remembered-refusal s e (Err cause) refusal is = is

-- where there was room, it is a refusal of the state
pub refused-step : (opening : World) (w : World) (most : ℕ) (es : List Entry) (e : Event) (refusal : HubRefusal) (after : World) (entries : List Entry) →
    is_history_full (state_of opening w most es) ≡ false → IsRefusal (transition w e) refusal → after ≡ w → entries ≡ es →
    IsStep (state_of opening w most es) e (Err (e, refusal)) (state_of opening after most entries)
refused-step opening w most es e refusal after entries room is same_world same_entries =
    let s = state_of opening w most es in (
      refl,
      ap (λ (v : World). state_of opening v most entries) same_world ∙ ap (λ (l : List Entry). state_of opening w most l) same_entries,
      subst (λ (b : Bool). IsRefusal (cond b (Err HistoryFull) (remembered s e (transition w e))) refusal) (sym room)
          (remembered-refusal s e (transition w e) refusal is),
    )

-- and keeps the guarantee
pub refused-guaranteed : (opening : World) (w : World) (most : ℕ) (es : List Entry) (e : Event) (refusal : HubRefusal) (after : World) (entries : List Entry) → IsSound w →
    is_history_full (state_of opening w most es) ≡ false → IsRefusal (transition w e) refusal → after ≡ w → entries ≡ es →
    KeepsGuarantee (state_of opening w most es) e (Err (e, refusal)) (state_of opening after most entries)
refused-guaranteed opening w most es e refusal after entries sound room is same_world same_entries =
    guaranteed (state_of opening w most es) e (Err (e, refusal)) (state_of opening after most entries) sound
    (refused-step opening w most es e refusal after entries room is same_world same_entries)
    tt

-- ---- a step that is refused or held back

module _ (t : Terms) (opening : World) (w : World) (most : ℕ) (es : List Entry) (e : Event) where
  pub unmade-step : (refusal : PublishRefusal) (held : List ℕ) (after : World) (entries : List Entry) → is_history_full (state_of opening w most es) ≡ false →
      IsAppliedIf t w e (Err refusal) held after → entries ≡ es → IsStepIf t (state_of opening w most es) e (Err (e, refusal)) held (state_of opening after most entries)
  unmade-step (By refusal) held after entries room is same = refused-step opening w most es e refusal after entries room is.1 is.0 same
  unmade-step Held held after entries room is same = (
    refl,
    ap (λ (v : World). state_of opening v most entries) is.0 ∙ ap (λ (l : List Entry). state_of opening w most l) same,
    room,
    is.1,
    is.2,
  )

  pub unmade-guaranteed : (refusal : PublishRefusal) (held : List ℕ) (after : World) (entries : List Entry) → IsSound w → is_history_full (state_of opening w most es) ≡ false →
      IsAppliedIf t w e (Err refusal) held after → entries ≡ es →
      IsOffered KeepsGuarantee (λ s next. next ≡ s) (state_of opening w most es) e (Err (e, refusal)) (state_of opening after most entries)
  unmade-guaranteed (By refusal) held after entries sound room is same = refused-guaranteed opening w most es e refusal after entries sound room is.1 is.0 same
  unmade-guaranteed Held held after entries sound room is same =
      ap (λ (v : World). state_of opening v most entries) is.0 ∙ ap (λ (l : List Entry). state_of opening w most l) same

-- a caller that is lenient to all is never told that an event is held back
pub never-held : (s after : State) (e back : Event) (held : List ℕ) → IsStepIf to_all s e (Err (back, Held)) held after → ⊥
never-held s after e back held h = h.3 (h.4 ∙ none_holds_back s.world.sessions (transition s.world e))

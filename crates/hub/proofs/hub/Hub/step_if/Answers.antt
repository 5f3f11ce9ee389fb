-- an answered step is entered: it is the transition's, keeps the guarantee and what every hub keeps
use Rattle.std.proofs.Common.{◌≡◌, ◌∙◌, ◌<◌, ◌++◌, ◌∷◌, [], List, Ok, Err, false, length, ap, sym, refl, subst}
use Rattle.events.specs.Offers.{IsOffered}
use Rattle.events.specs.declared.answer.Entry.{Entry}
use Rattle.world.specs.Holding.{held_in}
use Rattle.hub.specs.History.{State, is_history_full}
use Rattle.hub.specs.Holding.{IsStepIf}
use Rattle.hub.specs.Guarantee.{KeepsGuarantee}
use Rattle.hub.proofs.Legal.{state_of, IsEntered, kept-step, entered-step, entered-guaranteed, refused-guaranteed, unmade-step, unmade-guaranteed}
use Rattle.hub.proofs.Soundness.{entitled}
use Rattle.hub.proofs.hub.Hub.step_if.Given as given
use Rattle.hub.proofs.hub.Hub.step_if.Goals as goal

-- each session's user may have its subscriptions
pub apply_if-requires-clause-sound : goal.apply_if-requires-clause-sound
apply_if-requires-clause-sound g c = entitled c.self.inside.world c.self.invariant.0

-- each session's user is whom the policy in force has under its name
pub apply_if-requires-clause-users : goal.apply_if-requires-clause-users
apply_if-requires-clause-users g c = c.self.invariant.0.users

-- where the history isn't full its entries can be counted
pub append-requires-clause-few : goal.append-requires-clause-few
append-requires-clause-few g c =
    let P : State → Type 0 = λ s. length s.entries < 18446744073709551615 in
    let Q : List Entry → Type 0 = λ l. length l < 18446744073709551615 in
    subst Q (sym c.reserve.ensures.entries) (subst P (sym c.self.view_is) (c.is_full.ensures.few c.if-is_full.false))

-- what the calls ensure
is_entered : (g : given.Over) (c : goal.After-append g) → IsEntered c.self.inside.opening c.self.inside.world c.self.inside.most c.self.inside.history.entries c.args.event c.append.result c.apply_if.new.self c.append.new.history.entries
is_entered g c =
    let room : is_history_full c.args.self.now ≡ false = sym c.is_full.ensures.full ∙ c.if-is_full.false in
    let P : State → Type 0 = λ s. is_history_full s ≡ false in
    let Q : Entry → Type 0 = λ a. IsEntered c.self.inside.opening c.self.inside.world c.self.inside.most c.self.inside.history.entries c.args.event a c.apply_if.new.self c.append.new.history.entries in
    subst Q (sym c.append.ensures.answer)
    (record {
      sound = c.self.invariant.0;
      reached = c.self.invariant.3;
      run = c.self.invariant.1;
      room = subst P (sym c.self.view_is) room;
      step = c.in-Ok.ensures.step.0.0;
      answer = c.in-Ok.ensures.step.0.1;
      reason = c.in-Ok.ensures.reason;
      entered = c.append.ensures.entered ∙ ap (λ (l : List Entry). l ++ c.in-Ok.told ∷ []) c.reserve.ensures.entries;
    })

pub invariant_of-self-in-Ok : goal.invariant_of-self-in-Ok
invariant_of-self-in-Ok g c = kept-step _ _ _ _ _ _ _ _ (is_entered g c)

pub returns-in-Ok-clause-transition : goal.returns-in-Ok-clause-transition
returns-in-Ok-clause-transition g c =
    let t = g.T.Lenient.terms c.args.lenient.now in
    let after = state_of c.self.inside.opening c.apply_if.new.self c.self.inside.most c.append.new.history.entries in
    let P : State → Type 0 = λ s. IsStepIf t s c.args.event (Ok c.append.result) c.apply_if.new.held.items after in
    let letting = ap (λ (a : Entry). held_in t c.self.inside.world.sessions a.outcome) c.append.ensures.answer ∙ c.in-Ok.ensures.step.1 in
    subst P c.self.view_is (entered-step _ _ _ _ _ _ _ _ (is_entered g c), letting)

pub returns-in-Ok-clause-guarantee : goal.returns-in-Ok-clause-guarantee
returns-in-Ok-clause-guarantee g c =
    let P : State → Type 0 = λ s. KeepsGuarantee s c.args.event (Ok c.append.result) (state_of c.self.inside.opening c.apply_if.new.self c.self.inside.most c.append.new.history.entries) in
    subst P c.self.view_is (entered-guaranteed _ _ _ _ _ _ _ _ (is_entered g c))

-- one that isn't made keeps the guarantee, whether the world refuses it, or memory, or somebody holds it back
pub returns-then-is_err-clause-guarantee : goal.returns-then-is_err-clause-guarantee
returns-then-is_err-clause-guarantee g c =
    let room : is_history_full c.args.self.now ≡ false = sym c.is_full.ensures.full ∙ c.if-is_full.false in
    let P : State → Type 0 = λ s. is_history_full s ≡ false in
    let Q : State → Type 0 = λ s. KeepsGuarantee s c.args.event (Err (c.args.event, c.refusal_of-refusal.result)) (state_of c.self.inside.opening c.self.inside.world c.self.inside.most c.reserve.new.self.entries) in
    subst Q c.self.view_is (refused-guaranteed _ _ _ _ _ _ _ _ c.self.invariant.0 (subst P (sym c.self.view_is) room) c.refusal_of-refusal.ensures refl c.reserve.ensures.entries)

pub returns-in-Err-clause-guarantee : goal.returns-in-Err-clause-guarantee
returns-in-Err-clause-guarantee g c =
    let room : is_history_full c.args.self.now ≡ false = sym c.is_full.ensures.full ∙ c.if-is_full.false in
    let P : State → Type 0 = λ s. is_history_full s ≡ false in
    let Q : State → Type 0 = λ s. IsOffered KeepsGuarantee (λ s next. next ≡ s) s c.args.event (Err (c.args.event, c.in-Err.refusal)) (state_of c.self.inside.opening c.apply_if.new.self c.self.inside.most c.reserve.new.self.entries) in
    subst Q c.self.view_is (unmade-guaranteed (g.T.Lenient.terms c.args.lenient.now) _ _ _ _ _ _ c.apply_if.new.held.items _ _ c.self.invariant.0 (subst P (sym c.self.view_is) room) c.in-Err.ensures.step c.reserve.ensures.entries)

pub returns-in-Err-clause-transition : goal.returns-in-Err-clause-transition
returns-in-Err-clause-transition g c =
    let t = g.T.Lenient.terms c.args.lenient.now in
    let room : is_history_full c.args.self.now ≡ false = sym c.is_full.ensures.full ∙ c.if-is_full.false in
    let P : State → Type 0 = λ s. is_history_full s ≡ false in
    let Q : State → Type 0 = λ s. IsStepIf t s c.args.event (Err (c.args.event, c.in-Err.refusal)) c.apply_if.new.held.items (state_of c.self.inside.opening c.apply_if.new.self c.self.inside.most c.reserve.new.self.entries) in
    subst Q c.self.view_is (unmade-step t _ _ _ _ _ _ c.apply_if.new.held.items _ _ (subst P (sym c.self.view_is) room) c.in-Err.ensures.step c.reserve.ensures.entries)

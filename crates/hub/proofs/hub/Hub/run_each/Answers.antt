-- no event is left
use Rattle.std.proofs.Common.{◌≡◌, List, [], subst, arith}
use Rattle.std.proofs.lemmas.Grind.{common_steps}
use Rattle.hub.specs.History.{IsStep}
use Rattle.hub.specs.Guarantee.{KeepsGuarantee}
use Rattle.events.specs.declared.event.Event.{Event}
use Rattle.hub.proofs.Runs.{Completes, Completes-end}
use Rattle.hub.proofs.hub.Hub.run_each.Goals as goal

pub returns-clause-run : goal.returns-clause-run
returns-clause-run c =
    let none : c.loop-event.events.items ≡ [] = grind (arith, common_steps) in
    let P : List Event → Type 0 = λ left. Completes IsStep c.args.self.now c.args.events.items c.loop-event.answers.items c.loop-event.self left in
    Completes-end IsStep _ _ _ _ (subst P none c.loop-event.invariant.done)

pub returns-clause-guarantee : goal.returns-clause-guarantee
returns-clause-guarantee c =
    let none : c.loop-event.events.items ≡ [] = grind (arith, common_steps) in
    let P : List Event → Type 0 = λ left. Completes KeepsGuarantee c.args.self.now c.args.events.items c.loop-event.answers.items c.loop-event.self left in
    Completes-end KeepsGuarantee _ _ _ _ (subst P none c.loop-event.invariant.guarded)

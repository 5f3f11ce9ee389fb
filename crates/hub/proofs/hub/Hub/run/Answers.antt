-- what every hub keeps, stays through the run
use Rattle.std.proofs.Common.{List, subst}
use Rattle.hub.specs.Sound.{IsSound}
use Rattle.hub.specs.History.{State}
use Rattle.hub.specs.Guarantee.{IsGuarded}
use Rattle.events.specs.declared.event.Event.{Event}
use Rattle.hub.proofs.Guaranteed.{sound-run}
use Rattle.hub.proofs.hub.Hub.run.Goals as goal

pub returns-in-Ok-clause-sound : goal.returns-in-Ok-clause-sound
returns-in-Ok-clause-sound c =
    let P : List Event → Type 0 = λ es. IsGuarded c.args.self.now es c.run_each.result.items c.run_each.new.self in
    let Q : State → Type 0 = λ s. IsSound s.world in
    sound-run c.args.self.now c.args.events.items c.run_each.result.items c.run_each.new.self (subst Q c.self.view_is c.self.invariant.0) (subst P c.from.ensures.0 c.run_each.ensures.guarantee)

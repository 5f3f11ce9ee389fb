-- whatever led to the world before the entries, the subscriptions are counted by that and the entries
use Rattle.std.proofs.Common.{◌≡◌, ◌++◌, List, All, subst}
use Rattle.events.specs.declared.answer.Entry.{Entry}
use Rattle.world.specs.World.{World}
use Rattle.hub.specs.History.{State, IsOpening, IsLegalRun}
use Rattle.hub.specs.Counts.{IsCounted}
use Rattle.hub.proofs.Parts.{counted, opens}
use Rattle.hub.proofs.hub.Hub.prove_invariant.Goals as goal

pub returns-clause-opening : goal.returns-clause-opening
returns-clause-opening c =
    let P : State → Type 0 = λ s. s.opening.number ≡ 0 → IsOpening s.opening in
    subst P c.self.view_is (opens c.self.inside.opening c.self.invariant.3)

pub returns-clause-counts : goal.returns-clause-counts
returns-clause-counts c =
    let P : State → Type 0 = λ s. (first : World) (past : List Entry) → IsOpening first → IsLegalRun first past s.opening → All (IsCounted (past ++ s.entries)) s.world.subscriptions in
    subst P c.self.view_is (λ first past opening before. counted first past c.self.inside.opening c.self.inside.history.entries c.self.inside.world opening before c.self.invariant.1)

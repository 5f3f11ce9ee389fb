-- a world that was reached with number 0 is an opening
use Rattle.std.proofs.Common.{◌≡◌, subst}
use Rattle.hub.specs.History.{IsOpening}
use Rattle.hub.specs.Segments.{HistoryPart}
use Rattle.hub.proofs.Parts.{opens}
use Rattle.hub.proofs.segment.Segment.prove_invariant.Goals as goal

pub returns-clause-opening : goal.returns-clause-opening
returns-clause-opening c =
    let P : HistoryPart → Type 0 = λ p. p.opening.number ≡ 0 → IsOpening p.opening in
    subst P c.self.view_is (opens c.self.inside.opening c.self.invariant.reached)

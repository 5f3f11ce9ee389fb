-- nothing is kept for it
use Rattle.std.proofs.Common.{rules, ◌≡◌, Some, subst}
use Rattle.slab.specs.Slab.{get}
use Rattle.server_connections.specs.Work.{IsWrittenTo}
use Rattle.server_connections.proofs.connections.Connections.is_unwritten.Goals as goal

pub returns-else-waits : goal.returns-else-waits
returns-else-waits c flush =
    let here : Some c.in-Some.it.now ≡ get c.args.self.now.slab c.args.key = search rules in
    subst IsWrittenTo here ((λ kept. absurd (search rules)), flush)

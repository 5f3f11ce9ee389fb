use Rattle.std.proofs.Common.{Some}
use Rattle.world_rows.proofs.ids.Holding.{looked_up}
use Rattle.world_rows.proofs.ids.sids.one_alone.Goals as goal

pub returns : goal.returns
returns c = λ other.
    let update = c.in_ok-insert.ensures.updates in
    let here = looked_up c.args.sid.items _ _ (Some c.args.id) update.1 update.3 other in
    rw c.with_hasher-own.ensures.empty at here

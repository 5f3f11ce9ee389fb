use Rattle.std.proofs.Common.{Some, rules}
use Rattle.world_rows.proofs.ids.Holding.{looked_up}
use Rattle.world_rows.proofs.ids.Owns.{at_conn}
use Rattle.world_rows.proofs.ids.sids.Sids.insert.Goals as goal

pub returns-in-Ok-clause-ok : goal.returns-in-Ok-clause-ok
returns-in-Ok-clause-ok c =
    let update = (c.get_mut.follows.holds c.insert.new.self).3 (search rules) in
    let inner = c.in-Ok.ensures.updates in
    at_conn c.args.conn c.args.sid.now (Some c.args.id) (Some c.in-Some.own.now) (Some c.insert.new.self) _ _ c.in-Some.ensures.value update.0
    (λ sid. rw c.in_ok-key.ensures.items at (looked_up c.in_ok-key.key.items _ _ (Some c.args.id) inner.1 inner.3 sid))

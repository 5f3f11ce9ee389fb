-- one sid less; what the connection has goes where that was the last
use Rattle.std.proofs.Common.{◌∙◌, Some, None, rules}
use Rattle.world_rows.proofs.ids.Holding.{looked_up}
use Rattle.world_rows.proofs.ids.Owns.{at_conn, gone_at, nothing_in}
use Rattle.world_rows.proofs.ids.sids.Sids.remove.Goals as goal

pub returns-then-is_empty : goal.returns-then-is_empty
returns-then-is_empty c =
    let update = (c.get_mut.follows.holds c.remove.new.self).3 (search rules) in
    let inner = c.remove.ensures.updates in
    let pruned = c.remove-then-is_empty.ensures.updates in
    at_conn c.args.conn c.args.sid.now None (Some c.in-Some.own.now) None _ _ c.in-Some.ensures.value (gone_at c.args.conn (Some c.remove.new.self) _ _ _ update.0 pruned.0)
    (λ sid. nothing_in c.remove.new.self (c.is_empty.ensures.0 c.if-is_empty.true) sid ∙ looked_up c.args.sid.now _ _ None inner.1 inner.3 sid)

pub returns-else-is_empty : goal.returns-else-is_empty
returns-else-is_empty c =
    let update = (c.get_mut.follows.holds c.remove.new.self).3 (search rules) in
    let inner = c.remove.ensures.updates in
    at_conn c.args.conn c.args.sid.now None (Some c.in-Some.own.now) (Some c.remove.new.self) _ _ c.in-Some.ensures.value update.0
    (looked_up c.args.sid.now _ _ None inner.1 inner.3)

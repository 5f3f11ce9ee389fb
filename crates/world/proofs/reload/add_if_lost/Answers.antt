-- a subscription of a session with the same lists stands on
use Rattle.world.proofs.Losing.{same_stands, no_id, no_removal}
use Rattle.world.proofs.reload.add_if_lost.Goals as goal

pub returns-then-has_same_lists-clause-removed : goal.returns-then-has_same_lists-clause-removed
returns-then-has_same_lists-clause-removed c =
    let doc = c.args.ready.now in
    let zs = c.args.sessions.now in
    no_removal doc zs c.args.subscription.now _
    (same_stands doc zs c.args.subscription.now _ _ c.conn.ensures (c.has_same_lists.ensures doc c.requires.same) c.if-has_same_lists.true c.requires.sound)

pub returns-then-has_same_lists-clause-ids : goal.returns-then-has_same_lists-clause-ids
returns-then-has_same_lists-clause-ids c =
    let doc = c.args.ready.now in
    let zs = c.args.sessions.now in
    no_id doc zs c.args.subscription.now _
    (same_stands doc zs c.args.subscription.now _ _ c.conn.ensures (c.has_same_lists.ensures doc c.requires.same) c.if-has_same_lists.true c.requires.sound)

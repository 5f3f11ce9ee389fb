-- the next number is added in its place
use Rattle.std.proofs.Common.{◌+◌, sym, arith}
use Rattle.server_stats.proofs.Adding.{added_next, added_none}
use Rattle.server_stats.proofs.board.add_to.Goals as goal

pub loop-place-init : goal.loop-place-init
loop-place-init c = sym (added_none c.args.accounts.now.items)

pub loop-place-preserved : goal.loop-place-preserved
loop-place-preserved c =
    rw (c.add_at.ensures, c.loop-place.invariant)
    (added_next c.loop-place.place (c.loop-place.place + 1) _ c.args.accounts.now.items c.args.more.now (omega arith) c.loop-place-test.true)

-- the next one is cleared
use Rattle.std.proofs.Common.{sym}
use Rattle.std.proofs.lemmas.List.Edits.{map_over_more}
use Rattle.server_stats.specs.Boards.{cleared}
use Rattle.server_stats.proofs.board.clear.Goals as goal

pub loop-account-preserved : goal.loop-account-preserved
loop-account-preserved c =
    rw (c.none-account.ensures, sym c.account-item.is)
    (map_over_more cleared c.args.accounts.now c.loop-account.accounts c.loop-account.account-index c.account-item.result c.loop-account-test.true
    c.loop-account.invariant c.account-item.is)

-- the account in the place, if there is one, is another
use Rattle.std.proofs.Common.{rules, sym}
use Rattle.server_stats.proofs.Adding.{no_more, set_more}
use Rattle.server_stats.proofs.board.add_at.Goals as goal

pub returns-in-Some : goal.returns-in-Some
returns-in-Some c =
    rw c.plus-account.ensures (set_more c.args.place c.args.more c.args.accounts.now.items c.in-Some.account.now (search rules) c.in-Some.ensures.value)

pub returns-in_default : goal.returns-in_default
returns-in_default c = sym (no_more c.args.place c.args.more c.args.accounts.now.items (search rules))

use Rattle.std.proofs.Common.{◌≡◌, take}
use Rattle.server_stats.proofs.board.copied.Given as goal

-- those so far have copies
abbrev pub invariant-loop-account : goal.invariant-loop-account
invariant-loop-account l = l.copies.items ≡ take l.account-index l.accounts

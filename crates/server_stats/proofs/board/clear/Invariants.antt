use Rattle.std.proofs.Common.{◌≡◌, ◌++◌, drop, map, take}
use Rattle.server_stats.specs.Boards.{cleared}
use Rattle.server_stats.proofs.board.clear.Given as goal

-- those so far are cleared, and the others as they were
abbrev pub invariant-loop-account : goal.invariant-loop-account
invariant-loop-account l = l.accounts ≡ map cleared (take l.account-index l.fn.accounts) ++ drop l.account-index l.fn.accounts

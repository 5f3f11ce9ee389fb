use Rattle.std.proofs.Common.{◌≡◌, take}
use Rattle.server_stats.specs.Boards.{added_to}
use Rattle.server_stats.proofs.board.add_to.Given as goal

-- the numbers so far are added
abbrev pub invariant-loop-place : goal.invariant-loop-place
invariant-loop-place l = l.accounts.items ≡ added_to l.fn.accounts.items (take l.place l.more)

-- the sessions so far are copied
use Rattle.std.proofs.Common.{◌≡◌, take}
use Rattle.world.proofs.copies.session.plain_sessions.Given as goal

abbrev pub invariant-loop-session : goal.invariant-loop-session
invariant-loop-session l = l.all.items ≡ take l.session-index l.sessions

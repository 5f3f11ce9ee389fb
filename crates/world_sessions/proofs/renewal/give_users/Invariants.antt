-- the sessions so far have their users, and those that are left get the others
use Rattle.std.proofs.Common.{◌≡◌, ◌++◌, take, drop}
use Rattle.world_sessions.specs.Renewal.{with_users}
use Rattle.world_sessions.proofs.renewal.give_users.Given as goal

abbrev pub invariant-loop-session : goal.invariant-loop-session
invariant-loop-session l =
    take l.session-index l.list ++ with_users l.now (drop l.session-index l.list) l.users.items ≡ with_users l.now l.initial.list l.initial.users.items

-- the users so far of the sessions that stay
use Rattle.std.proofs.Common.{◌≡◌, take}
use Rattle.std.specs.List.{filter_map}
use Rattle.world_sessions.specs.Renewal.{user_again_of}
use Rattle.world_sessions.proofs.renewal.users_again.Given as goal

abbrev pub invariant-loop-session : goal.invariant-loop-session
invariant-loop-session l = l.users.items ≡ filter_map (user_again_of l.ready) (take l.session-index l.list)

-- what is left, handed over to the sessions as they are now, leaves what all leave
use Rattle.std.proofs.Common.{◌≡◌}
use Rattle.std.specs.Vec.ExtractIf.{extract_if_rest}
use Rattle.world_sessions.specs.deliveries.Delivered.{delivered}
use Rattle.world_sessions.proofs.sessions.Sessions.hand_over_each.Given as goal

abbrev pub invariant-loop-next : goal.invariant-loop-next
invariant-loop-next l = (delivered l.now (extract_if_rest l.next-iterator) l.self).0 ≡ (delivered l.now l.fn.all.items l.initial.self).0

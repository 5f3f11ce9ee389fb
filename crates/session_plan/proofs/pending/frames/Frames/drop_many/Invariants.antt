-- so many are dropped
use Rattle.std.proofs.Common.{◌≡◌, drop}
use Rattle.session_plan.proofs.pending.frames.Frames.drop_many.Given as goal

abbrev pub invariant-loop-next : goal.invariant-loop-next
invariant-loop-next l = l.self ≡ drop l._next l.initial.self

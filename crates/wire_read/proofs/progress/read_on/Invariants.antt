use Rattle.std.proofs.Common.{◌≡◌, length}
use Rattle.wire_read.specs.Framing.{followed, framing}
use Rattle.wire_read.specs.Awaited.{IsAwaiting}
use Rattle.wire_read.proofs.progress.read_on.Given as goal

abbrev pub invariant-loop-read : goal.invariant-loop-read
invariant-loop-read l =
    (followed (framing l.read.frames.items l.read.kept l.read.failed) l.left ≡ followed (framing l.fn.before.frames.items l.fn.before.kept l.fn.before.failed) l.fn.piece)
    × IsAwaiting l.read.awaited l.read.kept

abbrev pub decreases-loop-read : goal.decreases-loop-read
decreases-loop-read l = length l.left

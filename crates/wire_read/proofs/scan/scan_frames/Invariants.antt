use Rattle.std.proofs.Common.{◌≡◌, length}
use Rattle.wire_read.specs.Framing.{behind, frames_of}
use Rattle.wire_read.proofs.scan.scan_frames.Given as goal

abbrev pub invariant-loop-at : goal.invariant-loop-at
invariant-loop-at l = behind l.frames.items (frames_of l.left) ≡ behind l.fn.frames.items (frames_of l.fn.bytes)

abbrev pub decreases-loop-at : goal.decreases-loop-at
decreases-loop-at l = length l.left

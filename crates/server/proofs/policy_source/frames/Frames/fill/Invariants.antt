-- the front of the buffer was read
use Rattle.std.proofs.Common.{◌≡◌, ◌≤◌, ◌-◌, length, take}
use Rattle.std.specs.Io.KnownBytes.{Consumes}
use Rattle.server.proofs.policy_source.frames.Frames.fill.Given as goal

abbrev pub invariant-loop-done : goal.invariant-loop-done
invariant-loop-done g l = record {
  within : l.done ≤ length l.buf;
  whole : length l.buf ≡ length l.fn.buf;
  read : Consumes (g.S.Source.remaining l.fn.self.source) (g.S.Source.remaining l.self.source) (take l.done l.buf);
  failed : g.S.Source.failed l.self.source ≡ g.S.Source.failed l.fn.self.source;
}

abbrev pub decreases-loop-done : goal.decreases-loop-done
decreases-loop-done g l = length l.buf - l.done

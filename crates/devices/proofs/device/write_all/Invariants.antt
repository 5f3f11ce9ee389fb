use Rattle.std.proofs.Common.{length, take, ◌-◌, ◌≡◌, ◌≤◌}
use Rattle.std.specs.Io.KnownBytes.{Appends}
use Rattle.devices.proofs.device.write_all.Given as goal

-- the bytes so far were written, and no write has failed
abbrev pub invariant-loop-written : goal.invariant-loop-written
invariant-loop-written g l = record {
  within : l.written ≤ length l.bytes;
  appended : Appends (g.S.Sink.contents l.fn.sink) (g.S.Sink.contents l.sink) (take l.written l.bytes);
  failed : g.S.Sink.failed l.sink ≡ g.S.Sink.failed l.fn.sink;
}

abbrev pub decreases-loop-written : goal.decreases-loop-written
decreases-loop-written g l = length l.bytes - l.written

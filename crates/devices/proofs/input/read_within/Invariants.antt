use Rattle.std.proofs.Common.{◌≡◌, ◌≤◌, length}
use Rattle.std.specs.Io.KnownBytes.{Consumes}
use Rattle.devices.specs.Device.{counted}
use Rattle.devices.proofs.input.read_within.Given as goal

-- the text so far was read, a byte or more each time, each read is counted, and none has failed
abbrev pub invariant-reads : goal.invariant-reads
invariant-reads g l = record {
  taken : Consumes (g.S.Source.remaining l.fn.source) (g.S.Source.remaining l.source) l.text.items;
  reads : l.counter ≤ length l.text.items;
  counted : g.S.Source.reads l.source ≡ counted (g.S.Source.reads l.fn.source) l.counter;
  small : length l.text.items ≤ l.bytes;
  failed : g.S.Source.failed l.source ≡ g.S.Source.failed l.fn.source;
}

use Rattle.std.proofs.Common.{◌≡◌, ◌++◌, drop}
use Rattle.std.specs.Prelude.{flat_map}
use Rattle.server_stats.specs.texts.Metrics.{escaped_byte}
use Rattle.server_stats.proofs.texts.metrics.put_escaped.Given as goal

-- the text so far and what stands for the bytes that are left are all of it
abbrev pub invariant-loop-byte : goal.invariant-loop-byte
invariant-loop-byte l = l.out.items ++ flat_map escaped_byte (drop l.byte-index l.value) ≡ l.fn.out.items ++ flat_map escaped_byte l.value

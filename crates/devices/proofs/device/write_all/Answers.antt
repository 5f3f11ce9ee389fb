use Rattle.std.proofs.Common.{rules}
use Rattle.devices.proofs.Writes.{appends_more}
use Rattle.devices.proofs.device.write_all.Goals as goal

pub loop-written-preserved : goal.loop-written-preserved
loop-written-preserved g c = record {
  within = search rules;
  appended = appends_more _ _ _ _ _ _ c.loop-written.invariant.appended c.in_ok-written.ensures.bytes;
  failed = search rules;
}

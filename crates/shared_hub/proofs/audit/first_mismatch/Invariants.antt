-- the receipts so far are genuine
use Rattle.std.proofs.Common.{List, take}
use Rattle.events.specs.declared.answer.Entry.{Entry}
use Rattle.shared_hub.specs.Audits.{AreGenuine, IsJoined}
use Rattle.shared_hub.proofs.audit.first_mismatch.Given as goal

abbrev pub invariant-loop-index : goal.invariant-loop-index
invariant-loop-index l = (history : List Entry) → IsJoined l.segments l.hub history → AreGenuine history (take l.index l.receipts)

-- none so far has the number
use Rattle.std.proofs.Common.{take}
use Rattle.shared_hub.specs.Audits.{HasNone}
use Rattle.shared_hub.proofs.audit.is_first.Given as goal

abbrev pub invariant-loop-receipt : goal.invariant-loop-receipt
invariant-loop-receipt l = HasNone (take l.receipt-index l.receipts) l.number

-- the counts are of all entries since the run opened
use Rattle.std.proofs.Common.{subst, sym}
use Rattle.hub.specs.History.{State}
use Rattle.shared_hub.specs.Audits.{AreEntered}
use Rattle.shared_hub.proofs.Entered.{whole}
use Rattle.shared_hub.proofs.unlocked.Unlocked.finish.Goals as goal

pub returns-in-Ok-clause-whole : goal.returns-in-Ok-clause-whole
returns-in-Ok-clause-whole g c =
    let P : State → Type 0 = λ s. AreEntered c.args.segments.items s c.args.receipts.items in
    whole _ c.args.segments.items c.close.result.hub c.args.receipts.items c.close.result.counts (subst P (sym c.close.ensures.hub) c.in-Ok.ensures.all.1) c.close.result.counted

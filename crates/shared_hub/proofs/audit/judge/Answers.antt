-- where nothing is wrong at any number, and no receipt is out of place
use Rattle.shared_hub.proofs.Entered.{entered}
use Rattle.shared_hub.proofs.audit.judge.Goals as goal

pub returns-in-None : goal.returns-in-None
returns-in-None c = entered c.args.segments.now c.args.hub.now c.args.receipts.now c.in_default.ensures.history c.in_default.ensures.least c.in-None.ensures

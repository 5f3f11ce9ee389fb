-- what is retained is what passes the test
use Rattle.std.proofs.Common.{◌==◌, not, rules}
use Rattle.indexmap.proofs.CallerLemmas.{filter-RetainsPairs}
use Rattle.shared_waits.proofs.waits.leave_all.Goals as goal

pub returns : goal.returns
returns c = filter-RetainsPairs _ (λ w. not (c.args.receiver == w.1)) _ (λ k v b w g called. search rules) _ _ c.retain.ensures.filtered

-- what is retained is what passes the test
use Rattle.std.proofs.Common.{◌==◌, ◌&&◌, not, nat_eq, rules}
use Rattle.std.specs.List.{list_any}
use Rattle.indexmap.proofs.CallerLemmas.{filter-RetainsPairs}
use Rattle.shared_waits.proofs.waits.leave_some.Goals as goal

pub returns : goal.returns
returns c =
    filter-RetainsPairs _ (λ w. not (c.args.receiver == w.1 && list_any (nat_eq w.0) c.args.freed.now)) _ (λ k v b w g called. search rules) _ _ c.retain.ensures.filtered

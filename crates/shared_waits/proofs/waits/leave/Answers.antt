-- what is retained is what passes the test; a publisher that doesn't wait leaves all
use Rattle.std.proofs.Common.{◌∙◌, ◌==◌, not, nat_eq, ap, sym, rules}
use Rattle.std.specs.Map.{lookup}
use Rattle.indexmap.proofs.CallerLemmas.{filter-RetainsPairs}
use Rattle.shared_waits.proofs.Lists.{absent_stays, left_out, none_found}
use Rattle.shared_waits.proofs.waits.leave.Goals as goal

pub returns-then-contains_key-clause-left : goal.returns-then-contains_key-clause-left
returns-then-contains_key-clause-left c =
    filter-RetainsPairs _ (λ w. not (c.args.publisher == w.0)) _ (λ k v b w g called. search rules) _ _ c.retain.ensures.filtered

pub returns-then-contains_key-clause-gone : goal.returns-then-contains_key-clause-gone
returns-then-contains_key-clause-gone c =
    ap (lookup (nat_eq c.args.publisher)) (returns-then-contains_key-clause-left c) ∙ left_out c.args.publisher c.args.publishers.now.entries

pub returns-else-contains_key-clause-left : goal.returns-else-contains_key-clause-left
returns-else-contains_key-clause-left c =
    absent_stays c.args.publisher c.args.publishers.now.entries (none_found _ (sym c.contains_key.ensures ∙ c.if-contains_key.false))

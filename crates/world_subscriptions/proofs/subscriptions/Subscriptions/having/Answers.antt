-- the tree finds the ids of those that have the subject, and each of them is found by its id
use Rattle.std.proofs.Common.{◌≡◌, ◌∙◌, ap, sym, List}
use Rattle.std.specs.Map.{values_of}
use Rattle.world_subscriptions.specs.Index.{found_by}
use Rattle.world_subscriptions.specs.Subscriptions.{has_subject, having}
use Rattle.world_rows.specs.declared.subscription.Subscription.{Subscription}
use Rattle.world_subscriptions.proofs.Indexed.{pairs_of, pairs_matching, account_index, found_by_ids}
use Rattle.world_subscriptions.proofs.subscriptions.Subscriptions.having.Goals as goal

pub returns : goal.returns
returns c =
    let subs = values_of c.self.inside.by_id in
    let account = c.args.account.now in
    let subject = c.args.subject.now in
    let ids = c.in_ok-matching.ensures (pairs_of account subs) (account_index account subs c.self.inside.trees c.self.invariant.0.1 c.self.invariant.0.2) ∙ pairs_matching account subject subs in
    let found : found_by subs c.matching.new.found.items ≡ having account subject subs =
    rw ids (found_by_ids (has_subject account subject) subs c.self.invariant.0.1) in
    ap (λ (ss : List Subscription). found_by ss c.matching.new.found.items) (sym c.self.view_is)
    ∙ found
    ∙ ap (λ (ss : List Subscription). having account subject ss) c.self.view_is

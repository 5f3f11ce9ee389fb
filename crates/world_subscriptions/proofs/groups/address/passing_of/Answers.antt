-- ids rise among those that pass, as among all
use Rattle.std.proofs.Common.{◌≡◌, ◌∙◌, ◌<◌, Bool, List, filter, map, ap, sym, subst}
use Rattle.std.proofs.lemmas.List.Kept.{AllPairs-filter}
use Rattle.world_subscriptions.specs.Index.{found_by}
use Rattle.world_subscriptions.specs.Subscriptions.{has_subject, having}
use Rattle.world_rows.specs.declared.subscription.Subscription.{Subscription}
use Rattle.world_subscriptions.specs.groups.Chosen.{Rising}
use Rattle.world_subscriptions.proofs.groups.address.passing_of.Goals as goal

pub returns-clause-rising : goal.returns-clause-rising
returns-clause-rising g c =
    let p : Subscription → Bool = g.K.Keeps.keeps c.args.test.now in
    let subs : List Subscription = c.args.subscriptions.now in
    let all : List Subscription = having c.args.account.now c.args.subject.now subs in
    let found : map (λ s. s.now) c.in_ok-found.found.items ≡ filter p all =
    c.in_ok-found.ensures
    ∙ ap (λ ids. filter p (found_by subs ids)) c.as_slice.ensures.value
    ∙ ap (filter p) c.in_ok-having.ensures in
    subst Rising (sym found) (AllPairs-filter (λ (s t : Subscription). s.id < t.id) p all (AllPairs-filter (λ (s t : Subscription). s.id < t.id) (has_subject c.args.account.now c.args.subject.now) subs c.prove_invariant.ensures.ids))

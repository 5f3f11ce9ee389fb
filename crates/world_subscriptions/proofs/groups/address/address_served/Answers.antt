-- where no member is met the plain ones are all that are served, and else those that are chosen
use Rattle.std.proofs.Common.{◌≡◌, ◌∙◌, ◌<◌, ◌++◌, ℕ, Bool, false, List, map, filter, ap, sym, subst, Bor}
use Rattle.std.specs.List.{list_any}
use Rattle.std.proofs.lemmas.List.Kept.{AllPairs-filter}
use Rattle.events.specs.Messages.{Message}
use Rattle.events.specs.declared.answer.Addressed.{Addressed}
use Rattle.subjects.specs.Subject.{Token}
use Rattle.world_subscriptions.specs.Addressing.{addressed_to}
use Rattle.world_subscriptions.specs.Index.{found_by}
use Rattle.world_subscriptions.specs.Subscriptions.{has_subject, having}
use Rattle.world_rows.specs.declared.subscription.Subscription.{Subscription}
use Rattle.world_subscriptions.specs.groups.Chosen.{Rising, is_queued}
use Rattle.world_subscriptions.specs.groups.Served.{served}
use Rattle.world_subscriptions.proofs.groups.Chosen.{plain_are}
use Rattle.world_subscriptions.proofs.groups.address.address_served.Goals as goal

abbrev those : List (Bor Subscription) → List Subscription
those refs = map (λ s. s.now) refs

pub returns-then-branch : goal.returns-then-branch
returns-then-branch g c =
    let p : Subscription → Bool = g.K.Keeps.keeps c.args.test.now in
    let m : Message = c.args.routed.message.now in
    let subs : List Subscription = c.args.subscriptions.now in
    let xs : List Subscription = filter p (having c.args.routed.account.now m.subject subs) in
    let subject : c.subject.result ≡ m.subject = c.subject.ensures in
    let passing : filter p (found_by subs c.as_slice.result.now) ≡ xs =
    ap (λ (ids : List ℕ). filter p (found_by subs ids)) c.as_slice.ensures.value
    ∙ ap (filter p) (c.in_ok-having.ensures ∙ ap (λ (s : List Token). having c.args.routed.account.now s subs) subject) in
    let none : list_any is_queued xs ≡ false = ap (list_any is_queued) (sym passing) ∙ c.in_ok-address_all_plain.ensures.plain c.if-branch.true in
    c.in_ok-address_all_plain.ensures.added c.if-branch.true
    ∙ ap (λ (l : List Addressed). l ++ map (addressed_to m) (filter p (found_by subs c.as_slice.result.now))) c.clear.ensures.items
    ∙ ap (map (addressed_to m)) (passing ∙ plain_are xs c.args.routed.word none)

pub returns : goal.returns
returns g c =
    let p : Subscription → Bool = g.K.Keeps.keeps c.args.test.now in
    let m : Message = c.args.routed.message.now in
    let subs : List Subscription = c.args.subscriptions.now in
    let all : List Subscription = having c.args.routed.account.now m.subject subs in
    let xs : List Subscription = filter p all in
    let subject : c.subject.result ≡ m.subject = c.subject.ensures in
    let passing : those c.in_ok-found.found.items ≡ xs =
    c.in_ok-found.ensures
    ∙ ap (λ (ids : List ℕ). filter p (found_by subs ids)) c.as_slice-2.ensures.value
    ∙ ap (filter p) (c.in_ok-having.ensures ∙ ap (λ (s : List Token). having c.args.routed.account.now s subs) subject) in
    let rising : Rising xs = AllPairs-filter (λ (s t : Subscription). s.id < t.id) p all (AllPairs-filter (λ (s t : Subscription). s.id < t.id) (has_subject c.args.routed.account.now m.subject) subs c.prove_invariant.ensures.ids) in
    c.in_ok-address_each.ensures
    ∙ ap (λ (l : List Addressed). l ++ map (addressed_to m) (those c.as_slice-3.result.now)) c.clear-2.ensures.items
    ∙ ap (λ refs. map (addressed_to m) (those refs)) c.as_slice-3.ensures.value
    ∙ ap (map (addressed_to m)) (c.in_ok-keep_chosen.ensures (subst Rising (sym passing) rising) ∙ ap (served c.args.routed.word) passing)

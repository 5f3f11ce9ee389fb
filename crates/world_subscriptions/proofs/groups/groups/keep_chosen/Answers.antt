-- where nobody has a queue all are served, and where there is one queue the member that is chosen alone
use Rattle.std.proofs.Common.{◌∙◌, List, map, filter, ap, sym, Bor}
use Rattle.std.specs.List.{list_any}
use Rattle.std.specs.Option.{option_map}
use Rattle.world_subscriptions.specs.queue_choice.Choices.{chosen}
use Rattle.world_rows.specs.declared.subscription.Subscription.{Subscription}
use Rattle.world_subscriptions.specs.groups.Chosen.{is_queued, is_other, is_kept_alone}
use Rattle.world_subscriptions.proofs.groups.Chosen.{plain_are, alone_are}
use Rattle.world_subscriptions.proofs.groups.groups.keep_chosen.Goals as goal

abbrev those : List (Bor Subscription) → List Subscription
those refs = map (λ s. s.now) refs

pub returns-in_default : goal.returns-in_default
returns-in_default c = λ rising.
    plain_are (those c.args.all.now.items) c.args.word (ap (λ refs. list_any is_queued (those refs)) (sym c.as_slice.ensures.value) ∙ c.in_default.ensures)

pub returns : goal.returns
returns c = λ rising.
    let xs : List Subscription = those c.args.all.now.items in
    let queue = c.in-Some.queue.now in
    c.keep_alone.ensures
    ∙ ap (λ id. filter (λ (s : Subscription). is_kept_alone id s.id s.queue) xs) (c.member_for-id.ensures
    ∙ ap (λ refs. option_map (λ (s : Subscription). s.id) (chosen c.args.word (filter is_queued (those refs)))) c.as_slice-3.ensures.value)
    ∙ alone_are queue xs c.args.word
    (ap (λ refs. list_any (λ s. is_other queue s.queue) (those refs)) (sym c.as_slice-2.ensures.value) ∙ sym c.has_other.ensures ∙ c.if-has_other.false)

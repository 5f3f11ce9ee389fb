-- the ids of the choices keep those that are served
use Rattle.std.proofs.Common.{◌≡◌, ◌∙◌, List, map, Some, ap, subst}
use Rattle.world_subscriptions.specs.queue_choice.Choices.{names_of, group, chosen}
use Rattle.world_subscriptions.specs.declared.queue_choice.choice.Member.{Member}
use Rattle.world_subscriptions.specs.groups.Chosen.{is_choice}
use Rattle.world_subscriptions.proofs.groups.Chosen.{kept_are}
use Rattle.world_subscriptions.proofs.groups.groups.chosen_ids.Goals as goal

pub returns : goal.returns
returns c = λ rising.
    let P : List Member → Type 0 = λ ms. map Some c.in_ok-choices.choices.items ≡ map (λ name. chosen c.args.word (group name ms)) (names_of ms) in
    kept_are (map (λ s. s.now) c.args.all.now) c.in_ok-members.members.items c.in_ok-choices.choices.items c.in_ok-ids.ids.keys c.args.word rising
    c.in_ok-members.ensures
    (subst P c.as_slice.ensures.value c.in_ok-choices.ensures.which)
    (λ id. c.in_ok-ids.ensures id ∙ ap (λ (cs : List Member). is_choice cs id) c.as_slice-2.ensures.value)

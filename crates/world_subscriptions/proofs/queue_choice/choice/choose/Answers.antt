use Rattle.std.proofs.Common.{◌∙◌, map, ap}
use Rattle.world_subscriptions.specs.queue_choice.Choices.{chosen}
use Rattle.world_subscriptions.proofs.queue_choice.Law.{which, one_of_each}
use Rattle.world_subscriptions.proofs.queue_choice.choice.choose.Goals as goal

pub returns-clause-law : goal.returns-clause-law
returns-clause-law c =
    one_of_each c.args.members.now c.in_ok-choices.choices.items c.in_ok-groups.groups.list.items c.args.word c.in_ok-groups.ensures
    (c.in_ok-choices.ensures ∙ ap (map (chosen c.args.word)) c.as_slice.ensures)

pub returns-clause-which : goal.returns-clause-which
returns-clause-which c =
    which c.args.members.now c.in_ok-choices.choices.items c.in_ok-groups.groups.list.items c.args.word c.in_ok-groups.ensures
    (c.in_ok-choices.ensures ∙ ap (map (chosen c.args.word)) c.as_slice.ensures)

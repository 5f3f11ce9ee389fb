-- where nobody has a queue all are served, and of the members of one the one that is chosen
use Rattle.std.proofs.Common.{◌∙◌, sym}
use Rattle.world_subscriptions.proofs.groups.Chosen.{plain_are}
use Rattle.world_subscriptions.proofs.groups.Grouped.{one_is}
use Rattle.world_subscriptions.proofs.groups.grouping.grouping_of.Goals as goal

pub returns-in-None : goal.returns-in-None
returns-in-None c = λ word. sym (plain_are _ word c.in-None.ensures)

pub returns-else-has_outside : goal.returns-else-has_outside
returns-else-has_outside c = one_is c.in-Some.queue.now _ (sym c.has_outside.ensures ∙ c.if-has_outside.false) c.requires

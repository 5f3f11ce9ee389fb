-- what has been addressed and what is still to be are what all give, and so far no member was met
use Rattle.std.proofs.Common.{◌≡◌, ◌++◌, map, filter, drop}
use Rattle.std.specs.List.{list_any}
use Rattle.world_subscriptions.specs.Addressing.{addressed_to}
use Rattle.world_subscriptions.specs.Index.{found_by}
use Rattle.world_subscriptions.specs.groups.Chosen.{is_queued}
use Rattle.world_subscriptions.proofs.groups.address.address_all_plain.Given as goal

abbrev pub invariant-loop-id : goal.invariant-loop-id
invariant-loop-id g l =
    (l.all.items ++ map (addressed_to l.message) (filter (g.K.Keeps.keeps l.test) (found_by l.subscriptions (drop l.id-index l.ids)))
    ≡ l.initial.all.items ++ map (addressed_to l.message) (filter (g.K.Keeps.keeps l.test) (found_by l.subscriptions l.ids)))
    × (list_any is_queued (filter (g.K.Keeps.keeps l.test) (found_by l.subscriptions (drop l.id-index l.ids))) ≡ list_any is_queued (filter (g.K.Keeps.keeps l.test) (found_by l.subscriptions l.ids)))

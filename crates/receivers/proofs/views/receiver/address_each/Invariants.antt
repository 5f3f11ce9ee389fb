-- what has been addressed and what is still to be are what all give, and there is room for the others
use Rattle.std.proofs.Common.{◌≡◌, ◌≤◌, ◌+◌, ◌++◌, map, drop, length, vec_len, vec_capacity}
use Rattle.receivers.specs.views.Receivers.{addressed_at}
use Rattle.receivers.proofs.views.receiver.address_each.Given as goal

abbrev pub invariant-loop-receiver : goal.invariant-loop-receiver
invariant-loop-receiver l = record {
  addressed : l.made.items ++ map (addressed_at l.message) (drop l.receiver-index l.receivers) ≡ l.initial.made.items ++ map (addressed_at l.message) l.receivers;
  moved : vec_len l.made ≡ vec_len l.initial.made + l.receiver-index;
  reserved : vec_len l.initial.made + length l.receivers ≤ vec_capacity l.made;
}

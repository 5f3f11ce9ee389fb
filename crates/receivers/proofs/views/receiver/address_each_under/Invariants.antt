-- what has been addressed and what is still to be are what all give, and there is room for the others
use Rattle.std.proofs.Common.{◌≡◌, ◌≤◌, ◌+◌, ◌++◌, map, drop, length, vec_len, vec_capacity}
use Rattle.events.specs.Sendings.{named}
use Rattle.receivers.specs.views.Receivers.{addressed_at}
use Rattle.receivers.proofs.views.receiver.address_each_under.Given as goal

abbrev pub invariant-loop-receiver : goal.invariant-loop-receiver
invariant-loop-receiver l = record {
  addressed : l.all.items ++ map (addressed_at (named l.names l.message)) (drop l.receiver-index l.receivers) ≡ l.initial.all.items ++ map (addressed_at (named l.names l.message)) l.receivers;
  moved : vec_len l.all ≡ vec_len l.initial.all + l.receiver-index;
  reserved : vec_len l.initial.all + length l.receivers ≤ vec_capacity l.all;
}

-- the connections from the index on are as they were, and their drains, behind what is done, are all drains
use Rattle.std.proofs.Common.{◌≡◌, take, drop, length}
use Rattle.script.specs.Play.{drained}
use Rattle.script.proofs.Drains.{Leads}
use Rattle.script.proofs.player.drain_all.Given as goal

abbrev pub invariant-draining : goal.invariant-draining
invariant-draining l = record {
  leads : Leads l.out.items (take l.client-index l.clients) (drained (drop l.client-index l.clients) l.server) l.initial.out.items (drained l.initial.clients l.initial.server);
  len : length l.clients ≡ length l.initial.clients;
}

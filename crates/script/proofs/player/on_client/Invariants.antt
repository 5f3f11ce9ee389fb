-- no connection before the index has the number, and nothing has changed
use Rattle.std.proofs.Common.{◌≡◌}
use Rattle.script.proofs.Drains.{IsPast}
use Rattle.script.proofs.player.on_client.Given as goal

abbrev pub invariant-looking : goal.invariant-looking
invariant-looking l = record {
  past : IsPast l.conn l.said l.server l.clients l.client-index;
  clients : l.clients ≡ l.initial.clients;
  server : l.server ≡ l.initial.server;
  out : l.out.items ≡ l.initial.out.items;
}

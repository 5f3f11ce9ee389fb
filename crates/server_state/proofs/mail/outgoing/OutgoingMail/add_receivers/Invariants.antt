-- what the items so far make pending is told
use Rattle.std.proofs.Common.{◌<◌, All, length, take}
use Rattle.server_state.specs.mail.Mails.{AreMore, IsItemTold}
use Rattle.server_state.proofs.mail.outgoing.OutgoingMail.add_receivers.Given as goal

abbrev pub invariant-loop-item : goal.invariant-loop-item
invariant-loop-item l = record {
  more : AreMore l.initial.self.by_worker.items l.self.by_worker.items;
  told : 0 < length l.initial.self.by_worker.items → All (IsItemTold l.self.by_worker.items) (take l.item-index l.items);
}

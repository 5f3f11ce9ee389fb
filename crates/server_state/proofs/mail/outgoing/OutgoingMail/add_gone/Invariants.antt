-- whoever of them came so far is told to be drained
use Rattle.std.proofs.Common.{◌≡◌, ◌<◌, true, All, length, take}
use Rattle.server_state.specs.mail.Mails.{AreMore, drains, is_told}
use Rattle.server_state.proofs.mail.outgoing.OutgoingMail.add_gone.Given as goal

abbrev pub invariant-loop-conn : goal.invariant-loop-conn
invariant-loop-conn l = record {
  more : AreMore l.initial.self.by_worker.items l.self.by_worker.items;
  told : 0 < length l.initial.self.by_worker.items → All (λ conn. is_told drains l.self.by_worker.items conn ≡ true) (take l.conn-index l.gone);
}

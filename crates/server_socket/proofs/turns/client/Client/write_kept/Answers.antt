-- a write more, and what is left
use Rattle.std.proofs.Common.{◌≡◌, ◌-◌, ℕ, List, Option, Some, Ok, length, take, drop, refl, ap, subst, rules}
use Rattle.std.specs.Io.KnownBytes.{Appends}
use Rattle.devices.specs.declared.device.DeviceFailed.{DeviceFailed}
use Rattle.devices.specs.NonBlocking.{count_of}
use Rattle.server_socket.specs.turns.Turns.{Client}
use Rattle.server_socket.proofs.turns.Writing.{writes_nothing, writes_more}
use Rattle.server_socket.proofs.turns.client.Client.write_kept.Goals as goal

pub loop-self-init : goal.loop-self-init
loop-self-init g c = record {
  conn = ap (λ (x : Client). x.conn) c.self.view_is;
  writes = writes_nothing _ _ _ (ap (λ (x : Client). x.kept) c.self.view_is);
  failed = refl;
}

pub loop-self-preserved : goal.loop-self-preserved
loop-self-preserved g c =
    let found : c.in-Ok-Some.field-0 ≡ Some c.in-Ok-Some.count = search rules in
    let rest = take (length c.deref.result.now - c.loop-self.self-inside.written) (drop c.loop-self.self-inside.written c.deref.result.now) in
    let bytes = subst (λ (got : Option ℕ). Appends (g.S.NonBlockingSink.contents c.loop-self.writer) (g.S.NonBlockingSink.contents c.write.new.self) (take (count_of {E = DeviceFailed} (Ok got)) rest)) found c.in-Ok-Some.ensures.bytes in
    record {
      conn = c.loop-self.invariant.conn;
      writes = writes_more (g.S.NonBlockingSink.contents c.args.writer.now) (g.S.NonBlockingSink.contents c.loop-self.writer) (g.S.NonBlockingSink.contents c.write.new.self)
          c.args.self.now.kept c.loop-self.self-inside.bytes.items c.loop-self.self-inside.written c.in-Ok-Some.count
          c.loop-self.invariant.writes
          (subst (λ (xs : List ℕ). Appends (g.S.NonBlockingSink.contents c.loop-self.writer) (g.S.NonBlockingSink.contents c.write.new.self) (take c.in-Ok-Some.count (take (length xs - c.loop-self.self-inside.written) (drop c.loop-self.self-inside.written xs))))
          c.deref.ensures.value bytes);
      failed = search rules;
    }

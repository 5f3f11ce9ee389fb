-- those that are let on, and those that still wait, are no more than all before
use Rattle.std.proofs.Common.{◌≤◌, ◌+◌, ◌≡◌, ◌∙◌, length, length-append, ap, arith}
use Rattle.shared_waits.specs.Waiting.{Waiting, under, without, after_end}
use Rattle.shared_waits.proofs.Lists.{leaves}
use Rattle.shared_waits.proofs.waits.Waits.remove_one.Goals as goal

pub returns-clause-left : goal.returns-clause-left
returns-clause-left c =
    let ws = c.self.inside.publishers.entries in
    let left : c.leave.new.publishers.entries ≡ after_end c.args.conn ws = c.leave.ensures.left ∙ ap (without c.args.conn) c.leave_all.ensures in
    let noted : length c.note_all.new.freed.items + length c.leave.new.publishers.entries ≤ length c.args.freed.now.items + length ws = omega (arith, leaves c.args.conn ws, ap length left, ap length c.note_all.ensures.noted, length-append c.args.freed.now.items (under c.args.conn ws)) in
    let before : length ws ≡ length c.args.self.now.publishers = ap (λ (w : Waiting). length w.publishers) c.self.view_is in
    omega (arith, c.note_all.new.freed.ok.0, c.args.freed.now.ok.0)

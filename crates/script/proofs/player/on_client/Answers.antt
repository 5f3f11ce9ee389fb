-- the said is done to the connection of the number, and to no other
use Rattle.std.proofs.Common.{◌≡◌, ◌∙◌, ◌==◌, ◌<◌, ◌≤◌, true, false, sym, refl, arith, get_or, length}
use Rattle.std.proofs.lemmas.Bool.Decides.{nat_tests}
use Rattle.std.proofs.lemmas.List.{set-get_or}
use Rattle.script.proofs.Drains.{past_zero, past_more, past_all, past-same, done_here, done-same}
use Rattle.script.proofs.player.on_client.Goals as goal

pub looking-init : goal.looking-init
looking-init c = record { past = past_zero _ _ _ _; clients = refl; server = refl; out = refl }

pub looking-preserved : goal.looking-preserved
looking-preserved c =
    let within : c.looking.client-index < length c.looking.clients = omega arith in
    let unchanged = set-get_or c.looking.clients c.looking.client-index c.client-item.result in
    let other : (get_or c.looking.clients c.looking.client-index c.client-item.result).conn.conn == c.args.conn ≡ false = grind (arith, nat_tests, c.if-number-conn.false) in
    record {
      past = past-same _ _ _ _ _ _ (sym unchanged) (past_more c.args.conn c.args.said.now c.looking.server c.looking.clients c.looking.client-index c.client-item.result within other c.looking.invariant.past);
      clients = unchanged ∙ c.looking.invariant.clients;
      server = c.looking.invariant.server;
      out = c.looking.invariant.out;
    }

pub returns : goal.returns
returns c =
    let past : length c.looking.clients ≤ c.looking.client-index = omega arith in
    done-same _ _ _ _ _ _ _ _ _ _ _ _ c.looking.invariant.server c.looking.invariant.clients c.looking.invariant.out
    (past_all c.args.conn c.args.said.now c.looking.server c.looking.clients c.looking.client-index c.looking.out.items past c.looking.invariant.past)

pub returns-then-number-conn : goal.returns-then-number-conn
returns-then-number-conn c =
    let within : c.looking.client-index < length c.looking.clients = omega arith in
    let same : (get_or c.looking.clients c.looking.client-index c.client-item.result).conn.conn == c.args.conn ≡ true = grind (arith, nat_tests, c.if-number-conn.true) in
    done-same _ _ _ _ _ _ _ _ _ _ _ _ c.looking.invariant.server c.looking.invariant.clients c.looking.invariant.out
    (done_here c.args.conn c.args.said.now c.looking.server c.on_client_line.new.server c.looking.clients c.looking.client-index c.client-item.result c.on_client_line.new.self c.in_ok-full.full c.looking.out.items c.on_client_line.new.out.items
    within same c.looking.invariant.past c.in_ok-full.ensures)

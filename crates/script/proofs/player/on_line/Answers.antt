-- to open a connection the hub is not asked
use Rattle.std.proofs.Common.{sym, subst}
use Rattle.lines.specs.declared.script_text.lines.Line.{Line}
use Rattle.script.specs.Play.{line_effect, IsEffect}
use Rattle.script.proofs.player.on_line.Goals as goal

pub returns-in_ok-stops-in-Open : goal.returns-in_ok-stops-in-Open
returns-in_ok-stops-in-Open c =
    let P : Line → Type 0 = λ l. IsEffect (line_effect c.args.numbered.number c.args.numbered.progress l c.args.server.now c.args.clients.now.items) c.args.out.now.items c.open.new.out.items c.open.new.clients.items c.args.server.now c.in_ok-stops-in-Open.stops in
    subst P (sym c.in-Open.is) (c.in_ok-stops-in-Open.ensures c.args.numbered.progress c.args.server.now)

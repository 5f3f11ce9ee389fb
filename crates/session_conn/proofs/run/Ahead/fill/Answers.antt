-- further frames may stand behind those that were looked at
use Rattle.std.proofs.Common.{List, sym, subst}
use Rattle.wire_read.specs.declared.frame.Frame.{Frame}
use Rattle.session_conn.specs.Running.{IsAhead}
use Rattle.session_conn.proofs.Gathered.{ahead_further}
use Rattle.session_conn.proofs.run.Ahead.fill.Goals as goal

pub returns-then-front-gt1 : goal.returns-then-front-gt1
returns-then-front-gt1 c =
    subst (λ (x : List Frame). IsAhead c.args.stage c.gather.new.self.room x c.gather.new.self.messages.items) (sym c.front-front.ensures.1)
    (ahead_further c.args.stage c.gather.new.self.room c.front-front.result.now c.front-front.ensures.0 c.gather.new.self.messages.items c.gather.ensures)

-- messages of the frames that are left make those of all
use Rattle.session_conn.proofs.Gathered.{Gathers}
use Rattle.session_conn.proofs.run.Ahead.gather.Given as goal

abbrev pub invariant-loop-frame : goal.invariant-loop-frame
invariant-loop-frame l = Gathers l.stage l.frames l.frame-index l.self.room l.self.messages.items

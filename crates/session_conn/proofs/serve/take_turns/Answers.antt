-- none is ahead of what one turn leaves
use Rattle.session_conn.proofs.Finished.{nothing_after}
use Rattle.session_conn.proofs.serve.take_turns.Goals as goal

pub returns-clause-ahead : goal.returns-clause-ahead
returns-clause-ahead g c = nothing_after c.take_one.result c.clear.new.self.room c.take_one.new.frames c.clear.new.self.messages.items c.clear.ensures

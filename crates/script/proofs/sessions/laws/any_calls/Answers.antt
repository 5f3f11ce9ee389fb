-- what happened in any calls accounts for them
use Rattle.session_conn.specs.Turns.{port_of}
use Rattle.script.proofs.sessions.Accounting.{accounts_for_calls}
use Rattle.script.proofs.sessions.laws.any_calls.Goals as goal

pub returns : goal.returns
returns g c = accounts_for_calls (port_of g.P.Port.steps g.P.Port.posts g.P.Port.holds) g.W.Words.draws c.cut_anywhere.ensures

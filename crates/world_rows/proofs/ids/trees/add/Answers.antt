use Rattle.std.proofs.Common.{ap, Err}
use Rattle.world_rows.proofs.ids.Holding.{with_present}
use Rattle.world_rows.proofs.ids.trees.add.Goals as goal

pub returns-in-Present-clause-ok : goal.returns-in-Present-clause-ok
returns-in-Present-clause-ok c = with_present c.args.tree.now c.insert.new.self c.args.pattern.now c.args.id (c.in-Err.ensures.present.0 (ap Err c.in-Present.is)) c.in-Err.ensures.same

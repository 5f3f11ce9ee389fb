use Rattle.std.proofs.Common.{map}
use Rattle.tasks.proofs.Bounds.{by_words}
use Rattle.tasks.proofs.status.run.Goals as goal

pub returns-in-Ok-clause-servable : goal.returns-in-Ok-clause-servable
returns-in-Ok-clause-servable g c = λ options e. by_words (map g.S.AsStr.text c.as_slice.result.now) _ _ _ _ options c.run_words.ensures e

-- beside what is put all was cached before
use Rattle.receivers.proofs.cache.Draws.{cached_beside}
use Rattle.receivers.proofs.cache.drawn.put.Goals as goal

pub returns-in-Some : goal.returns-in-Some
returns-in-Some c = λ other known cached. cached_beside c.args.by_draw.now.items c.args.draw other c.args.drawn known cached

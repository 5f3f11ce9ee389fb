use Rattle.std.proofs.Common.{◌∙◌, sym}
use Rattle.std.proofs.lemmas.Option.{none-some}
use Rattle.world_rows.proofs.ids.Said.{said_so}
use Rattle.world_rows.proofs.ids.id_cache.IdCache.put.Goals as goal

pub returns-in-Ok : goal.returns-in-Ok
returns-in-Ok c = λ entries told is. c.set-in-Ok.ensures entries told (said_so entries c.args.account.now c.args.text.now c.args.ids c.in-Ok.cached c.in-Ok.ensures is)

-- of too many ids nothing is said
pub returns-then-len-gt-MOST_IDS : goal.returns-then-len-gt-MOST_IDS
returns-then-len-gt-MOST_IDS c = λ entries told is. c.set.ensures entries told (λ ids are. absurd (none-some ids (sym c.too_many.ensures ∙ are)))

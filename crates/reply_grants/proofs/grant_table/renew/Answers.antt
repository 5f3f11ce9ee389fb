-- the grant goes last, noted anew
use Rattle.std.proofs.Common.{◌∙◌, ◌-◌, ap, arith}
use Rattle.indexmap.specs.IndexMap.{set_value_at}
use Rattle.indexmap.proofs.CallerLemmas.{index_map_len-with_value_at}
use Rattle.reply_grants.proofs.Places.{renewed}
use Rattle.reply_grants.proofs.grant_table.renew.Goals as goal

pub returns-clause-entries : goal.returns-clause-entries
returns-clause-entries c e h =
    ap (λ es. set_value_at es (c.len-last.result - 1) c.args.granted) c.move_index.ensures.entries
    ∙ renewed c.args.table.now.entries c.args.place (c.len-last.result - 1) e c.args.granted h (omega (arith, c.len-last.ensures.len, c.requires))

pub returns-clause-held : goal.returns-clause-held
returns-clause-held c = index_map_len-with_value_at c.move_index.new.self (c.len-last.result - 1) c.args.granted ∙ c.move_index.ensures.reordered.1

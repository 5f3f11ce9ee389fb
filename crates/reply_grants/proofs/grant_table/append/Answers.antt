-- a subject that isn't there goes last
use Rattle.std.proofs.Common.{◌∙◌}
use Rattle.indexmap.proofs.CallerLemmas.{insert_entry-new}
use Rattle.subjects.specs.Equal.{same_subject}
use Rattle.reply_grants.proofs.grant_table.append.Goals as goal

pub returns-clause-entries : goal.returns-clause-entries
returns-clause-entries c = c.in-Ok.ensures.entries ∙ insert_entry-new same_subject c.args.table.now c.args.subject c.args.granted c.requires.0

-- no entry has the subject, or the one that has it was dropped, or it is moved in front of those that stand
use Rattle.std.proofs.Common.{◌∙◌, ◌+◌, sym, ap}
use Rattle.reply_grants.specs.Window.{window}
use Rattle.reply_grants.proofs.Entries.{none_dropped, none_from_lookup, none_without}
use Rattle.reply_grants.proofs.Places.{placed, without_before, moved_away}
use Rattle.reply_grants.proofs.grant_table.drop_one.Goals as goal

pub returns-in-None-clause-window : goal.returns-in-None-clause-window
returns-in-None-clause-window c =
    let es = c.args.table.now.entries in
    sym (none_without c.args.subject.now _ (none_dropped c.args.subject.now c.args.gone es (none_from_lookup c.args.subject.now es c.in-None.ensures.found)))

pub returns-then-at-gone-clause-window : goal.returns-then-at-gone-clause-window
returns-then-at-gone-clause-window c =
    let it = placed c.args.subject.now c.args.table.now.entries c.in-Some.at c.in-Some.ensures.index in
    sym (without_before c.args.subject.now it.0 c.args.table.now.entries c.in-Some.at c.args.gone it.1 c.place_of.ensures.unique c.if-at-gone.true)

pub returns-else-at-gone-clause-window : goal.returns-else-at-gone-clause-window
returns-else-at-gone-clause-window c =
    let it = placed c.args.subject.now c.args.table.now.entries c.in-Some.at c.in-Some.ensures.index in
    ap (λ es. window (c.args.gone + 1) es) c.move_index.ensures.entries
    ∙ moved_away c.args.subject.now it.0 c.args.table.now.entries c.in-Some.at c.args.gone it.1 c.place_of.ensures.unique c.if-at-gone.false

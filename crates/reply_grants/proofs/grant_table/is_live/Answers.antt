-- no entry has the subject, or the one that has it was dropped, or it stands
use Rattle.std.proofs.Common.{◌∙◌, sym, ap}
use Rattle.reply_grants.specs.Grants.{is_live}
use Rattle.reply_grants.specs.Window.{grant_of}
use Rattle.reply_grants.proofs.Entries.{none_dropped, none_from_lookup, none_live}
use Rattle.reply_grants.proofs.Places.{placed, same_grant, live_at, live_before}
use Rattle.reply_grants.proofs.grant_table.is_live.Goals as goal

pub returns-in-None : goal.returns-in-None
returns-in-None c =
    let es = c.args.table.now.entries in
    sym (none_live c.args.subject.now c.args.now c.args.terms _ (none_dropped c.args.subject.now c.args.gone es (none_from_lookup c.args.subject.now es c.in-None.ensures.found)))

pub returns-then-place-gone : goal.returns-then-place-gone
returns-then-place-gone c =
    let it = placed c.args.subject.now c.args.table.now.entries c.in-Some.place c.in-Some.ensures.index in
    sym (live_before c.args.subject.now it.0 c.args.now c.args.terms _ c.in-Some.place c.args.gone it.1 c.place_of.ensures.unique c.if-place-gone.true)

pub returns-else-place-gone : goal.returns-else-place-gone
returns-else-place-gone c =
    let s = c.args.subject.now in
    let it = placed s c.args.table.now.entries c.in-Some.place c.in-Some.ensures.index in
    let granted = same_grant s it.0 c.index.result.now c.args.table.now.entries c.in-Some.place it.1 c.index.ensures in
    c.is_live.ensures s ∙ ap (λ m. is_live c.args.now c.args.terms (grant_of (s, m))) granted
    ∙ sym (live_at s it.0 c.args.now c.args.terms _ c.in-Some.place c.args.gone it.1 c.place_of.ensures.unique c.if-place-gone.false)

-- the subject's entry goes last, or a new one comes behind all
use Rattle.std.proofs.Common.{◌∙◌, ◌-◌, ap}
use Rattle.std.specs.Map.{lookup}
use Rattle.subjects.specs.Equal.{same_subject}
use Rattle.reply_grants.specs.Window.{window}
use Rattle.reply_grants.proofs.Entries.{none_from_lookup, none_dropped, lookup_from_none}
use Rattle.reply_grants.proofs.Places.{placed, renewed_at, renewed_before, added}
use Rattle.reply_grants.proofs.grant_table.put.Goals as goal

pub returns-then-place-gone-clause-window : goal.returns-then-place-gone-clause-window
returns-then-place-gone-clause-window c =
    let s = c.args.subject in
    let it = placed s c.args.table.now.entries c.in-Some.place c.in-Some.ensures.index in
    ap (λ es. window (c.args.gone - 1) es) (c.renew.ensures.entries (s, it.0) it.1)
    ∙ renewed_before s it.0 c.args.granted _ c.in-Some.place c.args.gone it.1 c.get_index_of.ensures.unique c.if-place-gone.true c.requires.dropped

pub returns-in-Some-clause-window : goal.returns-in-Some-clause-window
returns-in-Some-clause-window c =
    let s = c.args.subject in
    let it = placed s c.args.table.now.entries c.in-Some.place c.in-Some.ensures.index in
    ap (λ es. window c.args.gone es) (c.renew.ensures.entries (s, it.0) it.1)
    ∙ renewed_at s it.0 c.args.granted _ c.in-Some.place c.args.gone it.1 c.get_index_of.ensures.unique c.if-place-gone.false

pub append-requires : goal.append-requires
append-requires c =
    let s = c.args.subject in
    let es = c.args.table.now.entries in
    let made = c.make_room-gone.ensures in
    (ap (λ fs. lookup (same_subject s) fs) made.entries ∙ lookup_from_none s _ (none_dropped s _ es (none_from_lookup s es c.in-None.ensures.found)), made.room)

pub returns-clause-window : goal.returns-clause-window
returns-clause-window c =
    let s = c.args.subject in
    let es = c.args.table.now.entries in
    let made = c.make_room-gone.ensures in
    ap (λ fs. window c.make_room-gone.result fs) c.append.ensures.entries
    ∙ added s c.args.granted es _ c.args.gone _ (none_from_lookup s es c.in-None.ensures.found) made.entries made.left made.kept.dropped

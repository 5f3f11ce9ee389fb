-- the grant at the place follows those that are copied
use Rattle.std.proofs.Common.{◌∙◌, ◌+◌, ◌++◌, ◌∷◌, [], List, ap, sym}
use Rattle.reply_grants.specs.Grants.{Grant}
use Rattle.reply_grants.specs.Window.{grant_of, window}
use Rattle.reply_grants.proofs.Copied.{one_more}
use Rattle.reply_grants.proofs.plain.add_plain.Goals as goal

pub returns-in_ok-push-in-Some : goal.returns-in_ok-push-in-Some
returns-in_ok-push-in-Some c =
    let es = c.args.table.now.entries in
    let it = grant_of (c.in-Some.subject.now, c.in-Some.granted.now) in
    ap (λ (gs : List Grant). gs ++ window (c.args.place + 1) es) (c.in_ok-push-in-Some.ensures.items ∙ ap (λ s. c.args.all.now.items ++ record it { subject = s } ∷ []) c.in_ok-subject-in-Some.ensures)
    ∙ one_more c.args.all.now.items es c.args.place (c.in-Some.subject.now, c.in-Some.granted.now) (sym c.in-Some.ensures.entry)

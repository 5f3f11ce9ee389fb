-- those that the subject's grant was put behind, but for the oldest where they are too many
use Rattle.std.proofs.Common.{◌≡◌, ◌∙◌, ◌+◌, ◌-◌, ◌++◌, ◌∷◌, [], List, ap}
use Rattle.reply_grants.specs.Grants.{Grant, without, youngest}
use Rattle.reply_grants.specs.Window.{grant_of, window}
use Rattle.reply_grants.proofs.Trims.{trimmed}
use Rattle.reply_grants.proofs.grants.Grants.note.Goals as goal

pub returns : goal.returns
returns c =
    let s = c.args.subject in
    let es = c.put-gone.new.table.entries in
    let g = c.put-gone.result in
    let fresh : grant_of (s, c.new.result) ≡ record { subject = s; noted = c.args.now; count = 0 } =
    λ i. record { subject = s; noted = c.new.ensures.0 i; count = c.new.ensures.1 i } in
    ap (λ n. window n es) (c.dropped-self-inside.ensures ∙ ap (λ n. g + (n - g - 1024)) c.len.ensures.len)
    ∙ (trimmed es g
    ∙ ap youngest (c.put-gone.ensures.window
    ∙ (ap (λ (gs : List Grant). without s gs ++ grant_of (s, c.new.result) ∷ []) c.self.view_is
    ∙ ap (λ (x : Grant). without s c.args.self.now ++ x ∷ []) fresh)))

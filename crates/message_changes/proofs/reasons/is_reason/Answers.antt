use Rattle.std.proofs.Common.{◌≡◌, ◌∙◌, ◌&&◌, Bool, ap, sym, not, List}
use Rattle.message_changes.proofs.Covered.{had_is}
use Rattle.message_changes.specs.Reasons.{first_of, is_had, own, reason_view, view_in, View}
use Rattle.message_changes.specs.declared.form.Form.TheVariants.{Whole}
use Rattle.message_changes.proofs.reasons.is_reason.Goals as goal

pub returns-then-is_looked_at : goal.returns-then-is_looked_at
returns-then-is_looked_at c =
    let kind = c.args.rules.kind in
    let any = c.args.rules.any.now in
    let one = first_of c.args.rules in
    let e = c.args.entry.now in
    let had : c.has-is_refused.result ≡ is_had (own kind any one) (view_in (Whole kind) any e) =
    had_is c.args.refusing.now.own c.reason-reason.result c.has-is_refused.result c.has-is_refused.ensures ∙ ap (λ (l : List View). is_had l (reason_view c.reason-reason.result)) c.requires.own
    ∙ ap (is_had (own kind any one)) c.reason-reason.ensures in
    ap not had ∙ ap (λ (b : Bool). b && not (is_had (own kind any one) (view_in (Whole kind) any e))) (sym (sym c.looks_at-is_looked_at.ensures ∙ c.if-is_looked_at.true))

pub returns-else-is_looked_at : goal.returns-else-is_looked_at
returns-else-is_looked_at c =
    let kind = c.args.rules.kind in
    let any = c.args.rules.any.now in
    let one = first_of c.args.rules in
    c.if-is_looked_at.false
    ∙ ap (λ (b : Bool). b && not (is_had (own kind any one) (view_in (Whole kind) any c.args.entry.now))) (sym (sym c.looks_at-is_looked_at.ensures ∙ c.if-is_looked_at.false))

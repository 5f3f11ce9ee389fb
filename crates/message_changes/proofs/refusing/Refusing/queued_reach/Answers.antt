use Rattle.std.proofs.Common.{◌≡◌, ◌∙◌, Bool, true, false, if◌then◌else◌, ap, length, sym, List}
use Rattle.std.proofs.lemmas.List.{length-map}
use Rattle.message_changes.proofs.Covered.{had_is}
use Rattle.message_changes.specs.Reasons.{denials, is_had, listed, reason_view, refusals, views, View}
use Rattle.message_changes.specs.declared.form.Form.TheVariants.{Queued}
use Rattle.message_changes.proofs.refusing.Refusing.queued_reach.Goals as goal

pub returns-then-is_had : goal.returns-then-is_had
returns-then-is_had c = λ kind any one other is.
    let v = reason_view c.args.reason.now in
    let had : is_had (views Queued any (listed kind other)) v ≡ true =
    sym (ap (λ (l : List View). is_had l v) is.queued) ∙ sym (had_is c.args.self.now.queued c.args.reason.now c.has-is_had.result c.has-is_had.ensures) ∙ c.if-is_had.true in
    is.denials ∙ sym (ap (λ (b : Bool). if b then length (denials kind any one other) else length (refusals kind any one other)) had)

pub returns-else-is_had : goal.returns-else-is_had
returns-else-is_had c = λ kind any one other is.
    let v = reason_view c.args.reason.now in
    let had : is_had (views Queued any (listed kind other)) v ≡ false =
    sym (ap (λ (l : List View). is_had l v) is.queued) ∙ sym (had_is c.args.self.now.queued c.args.reason.now c.has-is_had.result c.has-is_had.ensures) ∙ c.if-is_had.false in
    c.len.ensures ∙ c.args.self.now.reasons.ok.0 ∙ sym (length-map c.args.self.now.reasons.items reason_view) ∙ ap length is.reasons
    ∙ sym (ap (λ (b : Bool). if b then length (denials kind any one other) else length (refusals kind any one other)) had)

use Rattle.std.proofs.Common.{◌≡◌, ◌∙◌, Bool, true, false, if◌then◌else◌, ap, length, sym, List}
use Rattle.message_changes.proofs.Covered.{had_is}
use Rattle.message_changes.specs.Reasons.{fresh, is_had, listed, plain_reach, reason_view, views, View}
use Rattle.message_changes.specs.declared.form.Form.TheVariants.{Subjects}
use Rattle.message_changes.proofs.refusing.Refusing.plain_reach.Goals as goal

pub returns-then-is_had : goal.returns-then-is_had
returns-then-is_had c = λ kind any one other is.
    let v = reason_view c.args.reason.now in
    let had : is_had (views (Subjects kind) any (listed kind other)) v ≡ true =
    sym (ap (λ (l : List View). is_had l v) is.allowed) ∙ sym (had_is c.args.self.now.allowed c.args.reason.now c.has-is_had.result c.has-is_had.ensures) ∙ c.if-is_had.true in
    is.fresh ∙ sym (ap (λ (b : Bool). if b then length (fresh kind any one other) else plain_reach kind any one other) had)

pub returns-else-is_had : goal.returns-else-is_had
returns-else-is_had c = λ kind any one other is.
    let v = reason_view c.args.reason.now in
    let had : is_had (views (Subjects kind) any (listed kind other)) v ≡ false =
    sym (ap (λ (l : List View). is_had l v) is.allowed) ∙ sym (had_is c.args.self.now.allowed c.args.reason.now c.has-is_had.result c.has-is_had.ensures) ∙ c.if-is_had.false in
    is.plain ∙ sym (ap (λ (b : Bool). if b then length (fresh kind any one other) else plain_reach kind any one other) had)

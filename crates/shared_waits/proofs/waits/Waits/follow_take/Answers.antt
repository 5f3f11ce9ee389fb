-- the first that wait are let on
use Rattle.std.proofs.Common.{◌≡◌, ◌∙◌, true, sym, subst}
use Rattle.std.proofs.lemmas.Bool.{ne_eqb}
use Rattle.shared_waits.specs.Waiting.{Waiting, patience_with, has_room, IsRested}
use Rattle.shared_waits.proofs.Lists.{rested_by}
use Rattle.shared_waits.proofs.waits.Waits.follow_take.Goals as goal

pub returns-else-waiting-eq0-clause-rested : goal.returns-else-waiting-eq0-clause-rested
returns-else-waiting-eq0-clause-rested c =
    let before : Waiting = record { receivers = c.self.inside.receivers.entries; publishers = c.self.inside.publishers.entries } in
    let after : Waiting = record { receivers = c.charge.new.receivers.entries; publishers = c.let_some_on.new.publishers.entries } in
    let room : has_room c.args.waiting (patience_with before c.args.conn) ≡ true = sym c.charge.ensures.room ∙ c.if-not-charge.false in
    let P : Waiting → Type 0 = λ w. IsRested c.args.conn c.args.waiting c.args.refused c.args.now w after in
    subst P c.self.view_is
    (rested_by c.args.conn c.args.waiting c.args.refused c.args.now before after room (ne_eqb _ _ c.if-waiting-eq0.false) c.let_some_on.ensures.left c.charge.ensures.receivers)

use Rattle.std.proofs.Common.{◌∙◌, Bool, ap, map, not, sym}
use Rattle.message_changes.proofs.Covered.{had_is}
use Rattle.message_changes.specs.Reasons.{is_parted, reason_view}
use Rattle.message_changes.proofs.refusing.is_parted.Goals as goal

pub returns-then-is_had : goal.returns-then-is_had
returns-then-is_had c =
    had_is c.args.others.now c.args.reason.now c.has-found.result c.has-found.ensures ∙ ap (λ (b : Bool). is_parted b (map reason_view c.args.others.now) (reason_view c.args.reason.now)) (sym c.if-is_had.true)

pub returns-else-is_had : goal.returns-else-is_had
returns-else-is_had c =
    ap not (had_is c.args.others.now c.args.reason.now c.has-found.result c.has-found.ensures)
    ∙ ap (λ (b : Bool). is_parted b (map reason_view c.args.others.now) (reason_view c.args.reason.now)) (sym c.if-is_had.false)

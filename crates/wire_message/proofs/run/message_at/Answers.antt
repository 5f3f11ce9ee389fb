use Rattle.std.proofs.Common.{◌-◌, None, ap, ◌∙◌}
use Rattle.std.proofs.lemmas.Result.{IfOk-weaker}
use Rattle.wire_message.specs.Texts.{texts_at}
use Rattle.wire_message.proofs.PartLemmas.{spot_placed}
use Rattle.wire_message.proofs.run.message_at.Goals as goal

pub returns : goal.returns
returns c =
    let s = c.args.spot in
    IfOk-weaker c.new.result _ _
    (λ text is. is
    ∙ ap (λ t. texts_at t (record { subject = s.subject_len; reply = None; head = 0; payload = s.end - s.payload })) c.in_ok-text.ensures
    ∙ spot_placed c.args.block.now s c.requires)
    c.new.ensures

use Rattle.std.proofs.Common.{◌-◌, ap, ◌∙◌}
use Rattle.wire_message.specs.Stored.{stored}
use Rattle.wire_message.proofs.StoredLemmas.{are_within}
use Rattle.wire_message.specs.Texts.{span_len}
use Rattle.wire_message.proofs.message.MessageText.new.Goals as goal

pub invariant_of-result : goal.invariant_of-result
invariant_of-result c =
    let at = c.args.at in
    let is =
    c.new-sizes.ensures
    ∙ ap (λ r. stored at.subject r (c.len.result - at.payload - at.head) at.head) c.span_len-reply.ensures
    ∙ ap (λ n. stored at.subject (span_len at.reply) (n - at.payload - at.head) at.head) c.len.ensures.value in
    are_within c.args.text at c.new-sizes.result is c.requires.subject c.requires.reply c.requires.block

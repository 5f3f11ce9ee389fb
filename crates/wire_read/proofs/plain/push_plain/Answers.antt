use Rattle.std.proofs.Common.{None, ◌++◌, ◌∷◌, [], ap, ◌∙◌, arith}
use Rattle.wire_message.specs.Texts.{texts_at}
use Rattle.wire_read.specs.declared.frame.Frame.TheVariants as frame
use Rattle.wire_read.proofs.TextLemmas.{plain_placed}
use Rattle.wire_read.proofs.plain.push_plain.Goals as goal

pub returns : goal.returns
returns c =
    let at = c.args.at in
    let message =
    c.in_ok-message.ensures
    ∙ ap (λ t. texts_at t (record { subject = at.subject; reply = None; head = 0; payload = at.total })) c.in_ok-text.ensures
    ∙ plain_placed at c.args.bytes.now c.requires.subject (omega (arith, c.requires.payload)) in
    c.push_reserved.ensures.items
    ∙ ap (λ fs. fs ++ frame.Pub c.in_ok-message.message ∷ []) c.reserve.ensures.items
    ∙ ap (λ m. c.args.frames.now.items ++ frame.Pub m ∷ []) message

use Rattle.std.proofs.Common.{◌+◌, ◌-◌, List, ℕ, Option, ap, sym, subst, ◌∙◌, slice_range, arith}
use Rattle.wire_message.specs.Texts.{texts_at, IsSpanOf}
use Rattle.wire_message.specs.declared.places.Span.{Span}
use Rattle.wire_read.proofs.TextLemmas.{reply_from, reply_is, texts_placed}
use Rattle.wire_read.proofs.front.texts_of.Goals as goal

pub span_behind-requires : goal.span_behind-requires
span_behind-requires c = reply_from _ c.args.line c.requires.order

pub new-requires-clause-reply : goal.new-requires-clause-reply
new-requires-clause-reply c =
    let line = c.args.line in
    let Q : List ℕ → Option Span → Type 0 = λ t r. IsSpanOf t (line.subject.end - line.subject.start) r in
    let placed = reply_is c.args.bytes.now c.args.start (c.args.start + line.total) line c.requires.order (omega arith) c.requires.total in
    subst (λ t. Q t c.span_behind.result) (sym c.in_ok-text.ensures)
    (subst (Q (slice_range c.args.bytes.now line.subject.start (c.args.start + line.total))) (sym c.span_behind.ensures) placed)

pub returns : goal.returns
returns c =
    let line = c.args.line in
    c.in_ok-message.ensures
    ∙ ap (λ t. texts_at t (record { subject = line.subject.end - line.subject.start; reply = c.span_behind.result; head = c.args.head; payload = line.total - c.args.head })) c.in_ok-text.ensures
    ∙ ap (λ r. texts_at (slice_range c.args.bytes.now line.subject.start (c.args.start + line.total)) (record { subject = line.subject.end - line.subject.start; reply = r; head = c.args.head; payload = line.total - c.args.head })) c.span_behind.ensures
    ∙ texts_placed c.args.bytes.now c.args.start c.args.head line c.requires.order c.requires.head c.requires.total

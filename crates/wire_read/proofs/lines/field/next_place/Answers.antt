-- a field has a byte
use Rattle.std.proofs.Common.{arith, ◌-◌, drop, length-take, length-drop}
use Rattle.wire_read.specs.lines.Places.{text_at}
use Rattle.wire_read.proofs.lines.FieldLemmas.{fields_end, fields_more}
use Rattle.wire_read.proofs.lines.field.next_place.Goals as goal

pub returns-then-place-clause-fields : goal.returns-then-place-clause-fields
returns-then-place-clause-fields c =
    let place = c.first_place-place.result in
    fields_end (drop c.args.from c.args.line.now) (text_at c.args.line.now place) c.first_place-place.ensures.text
    (omega (arith, c.if-place.true, length-take (place.end - place.start) (drop place.start c.args.line.now)))

pub returns-else-place-clause-fields : goal.returns-else-place-clause-fields
returns-else-place-clause-fields c =
    let place = c.first_place-place.result in
    fields_more (drop c.args.from c.args.line.now) (text_at c.args.line.now place) (drop place.end c.args.line.now) c.first_place-place.ensures.text c.first_place-place.ensures.rest
    (λ none. omega (
      arith,
      c.if-place.false,
      none,
      c.first_place-place.ensures.ordered,
      c.first_place-place.ensures.within,
      length-take (place.end - place.start) (drop place.start c.args.line.now),
      length-drop place.start c.args.line.now,
    ))

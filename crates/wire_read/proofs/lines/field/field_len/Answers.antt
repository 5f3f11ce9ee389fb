use Rattle.std.proofs.Common.{not, sym, ap, ◌∙◌, arith}
use Rattle.std.proofs.lemmas.List.Sums.{prefix_len_is}
use Rattle.wire_read.specs.lines.Field.{is_field_byte}
use Rattle.wire_read.proofs.lines.field.field_len.Goals as goal

pub returns-then-is_blank-clause-value : goal.returns-then-is_blank-clause-value
returns-then-is_blank-clause-value c =
    sym (prefix_len_is is_field_byte c.args.text.now c.loop-i.i 0 (omega arith) c.loop-i.invariant (λ _. ap not (sym c.is_blank.ensures ∙ c.if-is_blank.true)))

pub returns-clause-value : goal.returns-clause-value
returns-clause-value c =
    sym (prefix_len_is is_field_byte c.args.text.now _ 0 (omega arith) (λ k h. c.loop-i.invariant k (omega arith)) (λ h. absurd (omega arith)))

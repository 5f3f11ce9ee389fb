use Rattle.std.proofs.Common.{sym, arith, below_more}
use Rattle.std.proofs.lemmas.Bool.{lt-ltb, le-ltb}
use Rattle.std.proofs.lemmas.List.Sums.{prefix_len_is}
use Rattle.wire_read.specs.Plain.{is_field_byte}
use Rattle.wire_read.proofs.plain.field_len.Goals as goal

pub returns-then-byte-le32-clause-value : goal.returns-then-byte-le32-clause-value
returns-then-byte-le32-clause-value c =
    sym (prefix_len_is is_field_byte c.args.text.now c.loop-i.i 0 (omega arith) c.loop-i.invariant (λ _. le-ltb 32 _ c.if-byte-le32.true))

pub loop-i-preserved : goal.loop-i-preserved
loop-i-preserved c = below_more _ _ c.loop-i.invariant (lt-ltb 32 _ c.if-byte-le32.false)

pub returns-clause-value : goal.returns-clause-value
returns-clause-value c =
    sym (prefix_len_is is_field_byte c.args.text.now _ 0 (omega arith) (λ k h. c.loop-i.invariant k (omega arith)) (λ h. absurd (omega arith)))

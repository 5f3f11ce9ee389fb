use Rattle.std.proofs.Common.{◌-◌, ◌^◌, sym, ◌∙◌, below_more}
use Rattle.base.proofs.Reading.{number_more, number_whole}
use Rattle.base.proofs.digits.number_of.Goals as goal

pub loop-byte-preserved : goal.loop-byte-preserved
loop-byte-preserved c = (
  below_more _ _ c.loop-byte.invariant.0 (sym c.is_ascii_digit.ensures.value ∙ c.if-not-is_ascii_digit.false),
  number_more (2 ^ 64 - 1) c.args.digits.now c.loop-byte.byte-index c.loop-byte.number _ _ c.loop-byte-test.true c.if-not-is_ascii_digit.ensures.cases c.loop-byte.invariant.1 c.saturating_mul.ensures c.saturating_add-number.ensures,
)

pub returns : goal.returns
returns c =
    number_whole (2 ^ 64 - 1) c.args.digits.now c.loop-byte.byte-index c.loop-byte.number (sym c.is_empty.ensures ∙ c.if-is_empty.false) c.loop-byte-test.false c.loop-byte.invariant.0 c.loop-byte.invariant.1

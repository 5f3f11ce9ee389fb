use Rattle.std.proofs.Common.{◌∙◌, ◌+◌}
use Rattle.mapping.proofs.templates.Ranges.{more_numbers}
use Rattle.mapping.proofs.making.first_numbers.Goals as goal

pub loop-number-preserved : goal.loop-number-preserved
loop-number-preserved c =
    more_numbers c.loop-number.numbers.items c.push.new.self.items c.loop-number.number (c.args.count + 1) c.loop-number-test.true c.in_ok-push.ensures.items
    ∙ c.loop-number.invariant

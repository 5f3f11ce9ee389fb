use Rattle.std.proofs.Common.{◌∙◌, ◌+◌, ◌==◌, ap}
use Rattle.std.specs.List.{position_or_len}
use Rattle.mapping.proofs.templates.Ranges.{more_mapped}
use Rattle.mapping.proofs.making.inverse.Goals as goal

pub loop-number-preserved : goal.loop-number-preserved
loop-number-preserved c =
    more_mapped (λ n. position_or_len (λ m. m == n) c.args.references.now + 1) c.loop-number.numbers.items c.push.new.self.items c.loop-number.number (c.args.count + 1) (c.place_of.result + 1)
    c.loop-number-test.true (ap (λ k. k + 1) c.place_of.ensures.place) c.in_ok-push.ensures.items
    ∙ c.loop-number.invariant

use Rattle.std.proofs.Common.{◌∙◌, ◌+◌, sym}
use Rattle.mapping.specs.templates.Wildcards.{contains}
use Rattle.mapping.proofs.templates.Ranges.{more_passed}
use Rattle.mapping.proofs.templates.references.has_each.Goals as goal

pub loop-number-preserved : goal.loop-number-preserved
loop-number-preserved c =
    more_passed (λ n. contains n c.args.numbers.now) c.loop-number.number (c.args.count + 1) c.loop-number-test.true (sym c.contains.ensures ∙ c.if-not-contains.false)
    ∙ c.loop-number.invariant

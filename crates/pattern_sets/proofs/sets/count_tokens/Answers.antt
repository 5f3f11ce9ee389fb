use Rattle.std.proofs.Common.{ap, arith, length}
use Rattle.pattern_sets.proofs.Counts.{pattern_few}
use Rattle.pattern_sets.proofs.sets.count_tokens.Goals as goal

pub loop-token-init : goal.loop-token-init
loop-token-init c =
    let same = ap length c.tokens-rest.ensures.tokens in
    (omega (arith, same), pattern_few c.args.pattern.now c.tokens-rest.ensures.grammar)

pub overflow_add-count : goal.overflow_add-count
overflow_add-count c =
    let one = ap length c.in-Some.ensures in
    omega (arith, one, c.loop-token.invariant.0, c.loop-token.invariant.1)

pub loop-token-preserved : goal.loop-token-preserved
loop-token-preserved c =
    let one = ap length c.in-Some.ensures in
    (omega (arith, one, c.loop-token.invariant.0), c.loop-token.invariant.1)

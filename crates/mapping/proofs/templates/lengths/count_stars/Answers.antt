use Rattle.std.proofs.Common.{rules}
use Rattle.mapping.proofs.templates.Patterns.{pattern_short}
use Rattle.mapping.proofs.templates.lengths.count_stars.Goals as goal

pub loop-token-init : goal.loop-token-init
loop-token-init c = record { counted = search rules; few = search rules; bound = pattern_short c.args.pattern.now c.tokens-tokens.ensures.grammar }

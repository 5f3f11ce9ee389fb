use Rattle.std.proofs.Common.{rules}
use Rattle.mapping.proofs.templates.Patterns.{pattern_short}
use Rattle.mapping.proofs.templates.lengths.count_tokens.Goals as goal

pub loop-tokens-init : goal.loop-tokens-init
loop-tokens-init c = record { counted = search rules; bound = pattern_short c.args.pattern.now c.tokens-tokens.ensures.grammar }

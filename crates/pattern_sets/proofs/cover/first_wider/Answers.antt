use Rattle.pattern_sets.proofs.Covering.{passes_by_hash}
use Rattle.pattern_sets.proofs.cover.first_wider.Goals as goal

pub least-least-requires-clause-hash : goal.least-least-requires-clause-hash
least-least-requires-clause-hash c =
    passes_by_hash c.args.at c.args.reasons.now c.args.reason.now c.args.index.now c.bytes-text.result.now c.requires c.tokens.ensures.grammar c.bytes-text.ensures

use Rattle.std.proofs.Common.{◌∙◌, ap}
use Rattle.mapping.specs.Pairs.{count_stars, has_tail}
use Rattle.mapping.proofs.Made.{tails_prefixed, stars_prefixed}
use Rattle.mapping.proofs.map.Mapping.with_prefix.Goals as goal

pub in_order-requires-clause-tails : goal.in_order-requires-clause-tails
in_order-requires-clause-tails c =
    ap has_tail c.in_ok-local.ensures ∙ tails_prefixed c.args.prefix.now c.args.pattern.now c.tokens.ensures.grammar

pub in_order-requires-clause-stars : goal.in_order-requires-clause-stars
in_order-requires-clause-stars c =
    ap count_stars c.in_ok-local.ensures ∙ stars_prefixed c.args.prefix.now c.args.pattern.now c.tokens.ensures.grammar

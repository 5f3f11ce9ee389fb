use Rattle.std.proofs.Common.{rules}
use Rattle.mapping.proofs.Made.{stars_kept, each_kept, once_kept}
use Rattle.mapping.proofs.map.Mapping.in_order.Goals as goal

pub of-requires-clause-stars : goal.of-requires-clause-stars
of-requires-clause-stars c =
    stars_kept c.args.outer.now c.args.local c.in_ok-references.references.items c.requires.stars (search rules)

pub of-requires-clause-each : goal.of-requires-clause-each
of-requires-clause-each c = each_kept c.args.outer.now c.in_ok-references.references.items (search rules)

pub of-requires-clause-once : goal.of-requires-clause-once
of-requires-clause-once c = once_kept c.args.outer.now c.in_ok-references.references.items (search rules)

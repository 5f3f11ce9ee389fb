use Rattle.std.proofs.Common.{◌∙◌}
use Rattle.mapping.proofs.Made.{templated_stars}
use Rattle.mapping.proofs.one_way.Ways.{local_tails, local_within, spelled, templated_is}
use Rattle.mapping.proofs.one_way.one_way.OneWay.templated.Goals as goal

pub local_of-requires-clause-spelled : goal.local_of-requires-clause-spelled
local_of-requires-clause-spelled c = (spelled c.args.pattern.now c.args.template.now c.requires).0

pub local_of-requires-clause-few : goal.local_of-requires-clause-few
local_of-requires-clause-few c = (spelled c.args.pattern.now c.args.template.now c.requires).1

pub between-requires-clause-tails : goal.between-requires-clause-tails
between-requires-clause-tails c = local_tails c.args.pattern.now c.args.template.now c.in_ok-local.local.pattern c.requires c.in_ok-local.ensures.pattern

pub between-requires-clause-stars : goal.between-requires-clause-stars
between-requires-clause-stars c = templated_stars c.args.template.now c.in_ok-local.local.pattern c.in_ok-local.local.references.items c.in_ok-local.ensures.pattern c.in_ok-local.ensures.references

pub between-requires-clause-within : goal.between-requires-clause-within
between-requires-clause-within c = local_within c.args.pattern.now c.args.template.now c.in_ok-local.local.references.items c.requires c.in_ok-local.ensures.references

pub returns : goal.returns
returns c =
    c.in_ok-made.ensures
    ∙ templated_is c.args.pattern.now c.args.template.now c.in_ok-local.local.pattern c.in_ok-local.local.references.items c.in_ok-local.ensures.pattern c.in_ok-local.ensures.references

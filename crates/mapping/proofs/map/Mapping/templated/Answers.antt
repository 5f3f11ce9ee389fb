use Rattle.std.proofs.Common.{◌∙◌}
use Rattle.mapping.proofs.Made.{templated_spelled, templated_tails, templated_stars, templated_each, templated_once, templated_is}
use Rattle.mapping.proofs.map.Mapping.templated.Goals as goal

pub local_of-requires-clause-spelled : goal.local_of-requires-clause-spelled
local_of-requires-clause-spelled c = (templated_spelled c.args.pattern.now c.args.template.now c.requires).0

pub local_of-requires-clause-few : goal.local_of-requires-clause-few
local_of-requires-clause-few c = (templated_spelled c.args.pattern.now c.args.template.now c.requires).1

pub of-requires-clause-tails : goal.of-requires-clause-tails
of-requires-clause-tails c = templated_tails c.args.pattern.now c.args.template.now c.in_ok-local.local.pattern c.requires c.in_ok-local.ensures.pattern

pub of-requires-clause-stars : goal.of-requires-clause-stars
of-requires-clause-stars c = templated_stars c.args.template.now c.in_ok-local.local.pattern c.in_ok-local.local.references.items c.in_ok-local.ensures.pattern c.in_ok-local.ensures.references

pub of-requires-clause-each : goal.of-requires-clause-each
of-requires-clause-each c = templated_each c.args.pattern.now c.args.template.now c.in_ok-local.local.references.items c.requires c.in_ok-local.ensures.references

pub of-requires-clause-once : goal.of-requires-clause-once
of-requires-clause-once c = templated_once c.args.pattern.now c.args.template.now c.in_ok-local.local.references.items c.requires c.in_ok-local.ensures.references

pub returns : goal.returns
returns c =
    c.in_ok-made.ensures
    ∙ templated_is c.args.pattern.now c.args.template.now c.in_ok-local.local.pattern c.in_ok-local.local.references.items c.in_ok-local.ensures.pattern c.in_ok-local.ensures.references

-- where nothing is wrong the parts are one history
use Rattle.hub.proofs.joins.Joined.{facts, one-history}
use Rattle.hub.proofs.joins.joining.joins.Goals as goal

pub returns-in-None-clause-history : goal.returns-in-None-clause-history
returns-in-None-clause-history c =
    one-history c.args.segments.now c.args.hub.now (facts c.args.segments.now c.args.hub.now c.known_parts.ensures.parts c.in-None.ensures.below)

use Rattle.hub_laws.proofs.routing.Seen.{seen_by_ways, reported_by_rows}
use Rattle.hub_laws.proofs.routing.laws.seen_by_ways.Goals as goal

pub returns-clause-seen : goal.returns-clause-seen
returns-clause-seen c = seen_by_ways

pub returns-clause-reported : goal.returns-clause-reported
returns-clause-reported c = reported_by_rows

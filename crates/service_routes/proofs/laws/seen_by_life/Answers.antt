use Rattle.service_routes.proofs.Seen.{dead, full, opens, seen, spends}
use Rattle.service_routes.proofs.laws.seen_by_life.Goals as goal

pub returns-clause-seen : goal.returns-clause-seen
returns-clause-seen c = seen

pub returns-clause-full : goal.returns-clause-full
returns-clause-full c = full

pub returns-clause-opened : goal.returns-clause-opened
returns-clause-opened c = opens

pub returns-clause-spent : goal.returns-clause-spent
returns-clause-spent c = spends

pub returns-clause-dead : goal.returns-clause-dead
returns-clause-dead c = dead

use Rattle.policy_ready.proofs.imports.Seen.{come, give}
use Rattle.policy_ready.proofs.imports.laws.views_come_by_rows.Goals as goal

pub returns-clause-come : goal.returns-clause-come
returns-clause-come c = come

pub returns-clause-give : goal.returns-clause-give
returns-clause-give c = give

use Rattle.tenant_laws.proofs.parts.Routes.{has, opens, spends, prunes, keeps}
use Rattle.tenant_laws.proofs.parts.laws.routes_by_part.Goals as goal

pub returns-clause-has : goal.returns-clause-has
returns-clause-has c = has

pub returns-clause-opens : goal.returns-clause-opens
returns-clause-opens c = opens

pub returns-clause-spends : goal.returns-clause-spends
returns-clause-spends c = spends

pub returns-clause-prunes : goal.returns-clause-prunes
returns-clause-prunes c = prunes

pub returns-clause-keeps : goal.returns-clause-keeps
returns-clause-keeps c = keeps

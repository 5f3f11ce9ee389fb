use Rattle.tenant_laws.proofs.parts.Least.{again_by_least, has_itself, least_in_part}
use Rattle.tenant_laws.proofs.parts.laws.rows_of_one_service.Goals as goal

pub returns-clause-again : goal.returns-clause-again
returns-clause-again c = again_by_least

pub returns-clause-itself : goal.returns-clause-itself
returns-clause-itself c = has_itself

pub returns-clause-part : goal.returns-clause-part
returns-clause-part c = least_in_part

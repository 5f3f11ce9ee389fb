use Rattle.tenant_laws.proofs.parts.Policy.{what_applies, views_in_part, views_stay, terms_in_part, again_in_part, users_in_part, users_kept, logins_in_part}
use Rattle.tenant_laws.proofs.parts.laws.policy_by_part.Goals as goal

pub returns-clause-applies : goal.returns-clause-applies
returns-clause-applies c = what_applies

pub returns-clause-views : goal.returns-clause-views
returns-clause-views c = views_in_part

pub returns-clause-stay : goal.returns-clause-stay
returns-clause-stay c = views_stay

pub returns-clause-terms : goal.returns-clause-terms
returns-clause-terms c = terms_in_part

pub returns-clause-again : goal.returns-clause-again
returns-clause-again c = again_in_part

pub returns-clause-filtered : goal.returns-clause-filtered
returns-clause-filtered c = users_kept

pub returns-clause-users : goal.returns-clause-users
returns-clause-users c = users_in_part

pub returns-clause-logins : goal.returns-clause-logins
returns-clause-logins c = logins_in_part

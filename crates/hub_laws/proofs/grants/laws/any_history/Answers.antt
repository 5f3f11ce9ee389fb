use Rattle.hub_laws.proofs.grants.History.{are_noted, are_published}
use Rattle.hub_laws.proofs.grants.Requests.{may_respond-request, response-request}
use Rattle.hub_laws.proofs.grants.laws.any_history.Goals as goal

pub returns-clause-noted : goal.returns-clause-noted
returns-clause-noted c = are_noted

pub returns-clause-may_respond : goal.returns-clause-may_respond
returns-clause-may_respond c = may_respond-request

pub returns-clause-responses : goal.returns-clause-responses
returns-clause-responses c = response-request

pub returns-clause-requests : goal.returns-clause-requests
returns-clause-requests c = are_published

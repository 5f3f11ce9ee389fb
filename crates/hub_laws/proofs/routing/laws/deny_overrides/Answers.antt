use Rattle.hub_laws.proofs.routing.Denying.{deny_overrides_publish, deny_overrides_subscribe, deny_overrides_delivery}
use Rattle.hub_laws.proofs.routing.laws.deny_overrides.Goals as goal

pub returns-clause-publish : goal.returns-clause-publish
returns-clause-publish c = deny_overrides_publish

pub returns-clause-subscribe : goal.returns-clause-subscribe
returns-clause-subscribe c = deny_overrides_subscribe

pub returns-clause-delivery : goal.returns-clause-delivery
returns-clause-delivery c = deny_overrides_delivery

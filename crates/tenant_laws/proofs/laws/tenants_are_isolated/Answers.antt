use Rattle.tenant_laws.proofs.Runs.{tenants_are_isolated}
use Rattle.tenant_laws.proofs.laws.tenants_are_isolated.Goals as goal

pub returns : goal.returns
returns c = tenants_are_isolated

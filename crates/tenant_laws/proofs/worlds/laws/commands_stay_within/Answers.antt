use Rattle.tenant_laws.proofs.worlds.Staying.{sessions_stay_apart}
use Rattle.tenant_laws.proofs.worlds.Steps.{others_leave_part, own_commands_agree}
use Rattle.tenant_laws.proofs.worlds.laws.commands_stay_within.Goals as goal

pub returns-clause-own : goal.returns-clause-own
returns-clause-own c = own_commands_agree

pub returns-clause-others : goal.returns-clause-others
returns-clause-others c = others_leave_part

pub returns-clause-sessions : goal.returns-clause-sessions
returns-clause-sessions c = sessions_stay_apart

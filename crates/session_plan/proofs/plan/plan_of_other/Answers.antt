-- the plan at the stage of a client whose CONNECT was accepted
use Rattle.std.proofs.Common.{◌≡◌, None, IfOk, sym, subst}
use Rattle.session_plan.specs.declared.stage.Stage.{Stage}
use Rattle.session_plan.specs.declared.plan.Plan.{Plan}
use Rattle.session_plan.specs.Plans.{plan_of, published_by}
use Rattle.session_plan.proofs.plan.plan_of_other.Goals as goal

pub returns-in-Connected : goal.returns-in-Connected
returns-in-Connected c =
    subst (λ (s : Stage). IfOk c.plan_connected.result (λ (plan : Plan). published_by s c.args.frame.now ≡ None → plan ≡ plan_of c.args.conn s c.args.frame.now))
    (sym c.in-Connected.is) c.plan_connected.ensures

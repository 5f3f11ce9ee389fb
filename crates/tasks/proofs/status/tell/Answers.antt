-- the text, or a front of it where the sink failed
use Rattle.std.proofs.Common.{refl}
use Rattle.tasks.proofs.Runs.{appends_front, has_failed}
use Rattle.tasks.proofs.status.tell.Goals as goal

pub returns-in-Ok : goal.returns-in-Ok
returns-in-Ok g c = (refl, ((λ fine. c.in-Ok.ensures.ok), appends_front _ _ _ c.in-Ok.ensures.ok))

pub returns-in-Err : goal.returns-in-Err
returns-in-Err g c = (refl, ((λ fine. absurd (has_failed _ _ c.in-Err.ensures.failed fine)), c.in-Err.ensures.err))

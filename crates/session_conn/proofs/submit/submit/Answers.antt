-- the event was submitted, and this came of it
use Rattle.std.proofs.Common.{Ok, Err, refl}
use Rattle.session_conn.proofs.submit.submit.Goals as goal

pub returns-in-Ok : goal.returns-in-Ok
returns-in-Ok g c = record { place = c.in-Ok.ensures.place; answer = (Ok c.in-Ok.answer, c.in-Ok.ensures.step, refl) }

pub returns-in-Err : goal.returns-in-Err
returns-in-Err g c = record { place = c.in-Err.ensures.place; answer = (Err (c.in-Err.event, c.in-Err.refusal), c.in-Err.ensures.step, refl) }

use Rattle.permissions.proofs.verdict_cache.verdicts.first_cache.Goals as goal

pub returns-in-Ok : goal.returns-in-Ok
returns-in-Ok c = λ verdict_of is. c.put.ensures verdict_of (c.in-Ok.ensures verdict_of c.args.epoch) is

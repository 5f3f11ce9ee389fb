use Rattle.std.proofs.Common.{subst}
use Rattle.std.specs.Prelude.{IfSome}
use Rattle.permissions.specs.verdict_cache.Verdicts.{AreCurrent}
use Rattle.permissions.proofs.verdict_cache.verdicts.Verdicts.put.Goals as goal

pub returns-in-Some : goal.returns-in-Some
returns-in-Some c = λ verdict_of known is.
    c.put.ensures verdict_of (subst (λ cache. IfSome cache (AreCurrent verdict_of c.args.self.now.epoch)) c.in-Some.is known) is

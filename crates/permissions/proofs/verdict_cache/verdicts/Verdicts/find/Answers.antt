use Rattle.std.proofs.Common.{subst}
use Rattle.std.specs.Prelude.{IfSome}
use Rattle.permissions.specs.verdict_cache.Verdicts.{AreCurrent}
use Rattle.permissions.proofs.verdict_cache.verdicts.Verdicts.find.Goals as goal

pub returns-in-Some-clause-kept : goal.returns-in-Some-clause-kept
returns-in-Some-clause-kept c = λ verdict_of known.
    c.find.ensures.kept verdict_of (subst (λ cache. IfSome cache (AreCurrent verdict_of c.args.self.now.epoch)) c.in-Some.is known)

use Rattle.std.proofs.Common.{◌∙◌, ap, sym}
use Rattle.std.specs.Prelude.{option_map}
use Rattle.std.specs.Map.Iter.{deref_pair}
use Rattle.permissions.proofs.verdict_cache.Kept.{first_current, same_asked}
use Rattle.permissions.proofs.verdict_cache.cache.VerdictCache.first.Goals as goal

pub returns-then-eq : goal.returns-then-eq
returns-then-eq c = λ verdict_of epoch current now.
    first_current verdict_of epoch c.args.self.now.verdicts.entries c.in-Some.asked.now c.args.self.now.asked c.in-Some.known.now
    (same_asked c.in-Some.asked.now c.args.self.now.asked (sym c.eq.ensures ∙ c.if-eq.true)) (ap (option_map deref_pair) (sym c.in-Some.is) ∙ c.peek_mru.ensures) current now

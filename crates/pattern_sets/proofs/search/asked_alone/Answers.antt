use Rattle.std.proofs.Common.{◌∙◌, sym, false, refl}
use Rattle.pattern_sets.proofs.Finding.{both}
use Rattle.pattern_sets.proofs.search.asked_alone.Goals as goal

pub returns-then-differs-clause-found : goal.returns-then-differs-clause-found
returns-then-differs-clause-found g c = sym c.in_ok-differs.ensures ∙ c.if-differs.true

pub returns-then-differs-clause-alike : goal.returns-then-differs-clause-alike
returns-then-differs-clause-alike g c = λ none. absurd (both false (sym none) refl)

pub returns-else-differs-clause-alike : goal.returns-else-differs-clause-alike
returns-else-differs-clause-alike g c = λ none. sym c.in_ok-differs.ensures ∙ c.if-differs.false

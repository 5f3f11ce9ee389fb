use Rattle.explain.proofs.Shown.{shows_outside}
use Rattle.explain.proofs.laws.shows_what_entries_lack.Goals as goal

pub returns-clause-outside : goal.returns-clause-outside
returns-clause-outside c = shows_outside

use Rattle.std.proofs.Common.{◌∙◌, ap}
use Rattle.subjects.specs.Subject.{tokens_of}
use Rattle.subjects.proofs.Text.{pattern_again}
use Rattle.subjects.specs.pattern_groups.Places.{hash_at}
use Rattle.subjects.proofs.pattern_groups.places.hash_of.Goals as goal

pub returns : goal.returns
returns c = c.hash_at.ensures ∙ ap (hash_at c.args.places) (ap tokens_of c.bytes.ensures ∙ pattern_again c.args.pattern.now c.tokens.ensures.grammar)

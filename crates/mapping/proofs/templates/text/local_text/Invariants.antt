-- with what is left the text is that with all
use Rattle.std.proofs.Common.{◌≡◌, [], length}
use Rattle.subjects.specs.Subject.{tokens_of}
use Rattle.mapping.specs.templates.Template.{local_of}
use Rattle.mapping.specs.templates.Text.{with_tokens}
use Rattle.mapping.proofs.templates.text.local_text.Given as goal

abbrev pub invariant-loop-token : goal.invariant-loop-token
invariant-loop-token l = with_tokens l.text.items (local_of l.tokens) ≡ with_tokens [] (local_of (tokens_of l.template))

abbrev pub decreases-loop-token : goal.decreases-loop-token
decreases-loop-token l = length l.tokens

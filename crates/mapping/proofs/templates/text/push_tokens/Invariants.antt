-- with what is left the text is that with all
use Rattle.std.proofs.Common.{◌≡◌, length}
use Rattle.mapping.specs.templates.Text.{with_tokens}
use Rattle.mapping.proofs.templates.text.push_tokens.Given as goal

abbrev pub invariant-loop-token : goal.invariant-loop-token
invariant-loop-token l = with_tokens l.text.items l.left ≡ with_tokens l.fn.text.items l.fn.tokens

abbrev pub decreases-loop-token : goal.decreases-loop-token
decreases-loop-token l = length l.left

-- patterns are equal exactly where their texts are
use Rattle.subjects.proofs.Text.{same_patterns}
use Rattle.subjects.proofs.equality.PatternAlike.is_like.Goals as goal

pub returns : goal.returns
returns c =
    same_patterns c.eq.result c.args.self.now c.args.other.now _ _ c.tokens.ensures.grammar c.tokens-2.ensures.grammar c.bytes.ensures c.bytes-2.ensures c.eq.ensures

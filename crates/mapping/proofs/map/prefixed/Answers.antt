use Rattle.std.proofs.Common.{◌∙◌, rules}
use Rattle.mapping.proofs.Made.{prefixed_tokens}
use Rattle.mapping.proofs.map.prefixed.Goals as goal

pub returns : goal.returns
returns c =
    c.in_ok-local.ensures
    ∙ prefixed_tokens c.args.prefix.now c.args.pattern.now c.as_slice.result.now c.push_tokens.new.text.items c.tokens.ensures.grammar c.tokens-2.ensures.grammar
    (search rules) (search rules)

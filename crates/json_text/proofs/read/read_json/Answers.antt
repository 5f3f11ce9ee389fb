use Rattle.std.proofs.Common.{rules}
use Rattle.json_text.proofs.Text.{value_is, value_is_none}
use Rattle.json_text.proofs.read.read_json.Goals as goal

pub returns-in-Ok-clause-value : goal.returns-in-Ok-clause-value
returns-in-Ok-clause-value c = value_is _ _ c.in-Ok.ensures.ok.0 c.in-Ok.ensures.ok.1

pub returns-else-is_memory-clause-none : goal.returns-else-is_memory-clause-none
returns-else-is_memory-clause-none c = λ _. value_is_none _ (c.in-Err.ensures.err (search rules))

use Rattle.subjects.specs.Fault.{pattern_fault}
use Rattle.subjects.proofs.texts.Parsing.{found_is}
use Rattle.subjects.proofs.texts.texts.pattern_if.Goals as goal

pub returns : goal.returns
returns c = found_is c.args.text.now (pattern_fault c.args.text.now) c.parse.result _ c.parse.ensures.tokens c.in_ok-found.ensures
